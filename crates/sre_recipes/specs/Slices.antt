-- The characters of a match and of its groups.
-- Of the specification: what sre_recipes makes public rests on it.
use Rattle.std.specs.Prelude.{ℕ, ◌+◌, ◌-◌, ◌/◌, List, length, map, Option, Some, None, true, cond, nat_eq, nat_le}
use Rattle.std.specs.Prelude.{slice_range}
use Rattle.sre_recipes.specs.Terms.{range_with_len, Marks, group, Asked, Match}

-- what is asked where a match has to end at the window's end
abbrev pub to_the_end : Asked → Asked
to_the_end a = record a { match_all = true }

-- the characters of a match
abbrev pub slice_of : List ℕ → Match → List ℕ
slice_of text m = slice_range text m.start m.end

-- the characters from one position to another, where the text has so many
abbrev pub slice_within : List ℕ → ℕ → ℕ → Option (List ℕ)
slice_within text from to = cond (nat_le to (length text)) (Some (slice_range text from to)) None

-- the characters of the group of marks 2g and 2g + 1, where the group is present
abbrev pub group_of : List ℕ → Marks → ℕ → Option (List ℕ)
group_of text marks g = elim (group marks g) [ None ↦ None | (Some span) ↦ slice_within text span.0 span.1 ]

-- the characters of a group as Python counts: number 0 is the match, and number 1 the first group
abbrev pub numbered_group : List ℕ → Match → ℕ → Option (List ℕ)
numbered_group text m number = cond (nat_eq number 0) (Some (slice_of text m)) (group_of text m.marks (number - 1))

-- the match, and each group up to the last that the marks reach
abbrev pub captured : List ℕ → Match → List (Option (List ℕ))
captured text m = map (numbered_group text m) (range_with_len 0 (length m.marks.raw / 2 + 1))
