-- What a template makes of a match, and a text whose matches are replaced.
-- Of the specification: what sre_recipes makes public rests on it.
use Rattle.std.specs.Prelude.{ℕ, List, [], ◌∷◌, ◌++◌, slice_range, unwrap_or}
use Rattle.sre_recipes.specs.Terms.{flat_map}
use Rattle.sre_engine.specs.Found as model
use Rattle.sre_recipes.specs.declared.replace.PieceOf.{PieceOf}
use Rattle.sre_recipes.specs.declared.replace.PieceOf.TheVariants.{Text, Match, Group}
use Rattle.sre_recipes.specs.Slices.{slice_of, numbered_group}

-- the characters that a piece stands for; a group that took no part stands for none
abbrev pub piece_of : {S : Type 0} → (S → List ℕ) → List ℕ → model.Match → PieceOf S → List ℕ
piece_of shown text m (Text literal) = shown literal
piece_of shown text m Match = slice_of text m
piece_of shown text m (Group number) = unwrap_or (numbered_group text m number) []

-- a template's pieces, one after the other
abbrev pub written : {S : Type 0} → (S → List ℕ) → List ℕ → List (PieceOf S) → model.Match → List ℕ
written shown text template m = flat_map (piece_of shown text m) template

-- the characters up to each match and what stands in its place, and those behind the last one up to `to`
abbrev pub replaced : List ℕ → (model.Match → List ℕ) → ℕ → ℕ → List model.Match → List ℕ
replaced text new from to [] = slice_range text from to
replaced text new from to (m ∷ ms) = slice_range text from m.start ++ (new m ++ replaced text new m.end to ms)
