-- What lies between matches.
-- Of the specification: what sre_recipes makes public rests on it.
use Rattle.std.specs.Prelude.{ℕ, List, [], ◌∷◌, ◌++◌, map, slice_range, Option, Some}
use Rattle.sre_recipes.specs.Terms.{range_with_len, Match}
use Rattle.sre_recipes.specs.Slices.{numbered_group}

-- the characters up to each match, and those behind the last one up to `to`
abbrev pub pieces_between : List ℕ → ℕ → ℕ → List Match → List (List ℕ)
pieces_between text from to [] = slice_range text from to ∷ []
pieces_between text from to (m ∷ ms) = slice_range text from m.start ∷ pieces_between text m.end to ms

-- the texts of so many groups of a match, from the first on
abbrev pub first_groups : List ℕ → ℕ → Match → List (Option (List ℕ))
first_groups text several m = map (numbered_group text m) (range_with_len 1 several)

-- the same pieces, and behind each but the last the groups of the match that it ends at
abbrev pub pieces_and_groups : List ℕ → ℕ → ℕ → ℕ → List Match → List (Option (List ℕ))
pieces_and_groups text several from to [] = Some (slice_range text from to) ∷ []
pieces_and_groups text several from to (m ∷ ms) =
    Some (slice_range text from m.start) ∷ (first_groups text several m ++ pieces_and_groups text several m.end to ms)
