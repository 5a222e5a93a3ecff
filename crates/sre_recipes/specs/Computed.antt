-- A text whose matches are replaced by what a function gives for each.
-- Of the specification: what sre_recipes makes public rests on it.
use denote.Ref.{Bor}
use Rattle.std.specs.Prelude.{◌≡◌, ℕ, List, [], ◌∷◌, ◌++◌, slice_range, Result, Ok}
use Rattle.sre_recipes.specs.Terms.{Match}
use Rattle.sre_recipes.specs.declared.groups.CapturesOf.{CapturesOf}
use Rattle.sre_recipes.specs.Slices.{captured}
use Rattle.sre_recipes.specs.Captured.{captures_shown}

-- a function in a state f, called with the captures of a match, gives these characters, and is then in the state g
abbrev pub Computes : {S A R E F : Type 0} → (S → List ℕ) → (F → Bor (CapturesOf S A) → Result R E → F → Type 0)
    → (R → List ℕ) → List ℕ → F → Match → List ℕ → F → Type 0
Computes {S} {A} {R} texts step shown text f m new g =
    (c : Bor (CapturesOf S A)) × (r : R) × (captures_shown texts c.now ≡ captured text m) × step f c (Ok r) g
    × (new ≡ shown r)

-- the characters up to each match and what is put in its place, one after the other, and those behind the last one
abbrev pub ReplacedInOrder : {F : Type 0} → (F → Match → List ℕ → F → Type 0) → List ℕ → F → ℕ → ℕ → List Match
    → List ℕ → Type 0
ReplacedInOrder Puts text f from to [] all = all ≡ slice_range text from to
ReplacedInOrder {F} Puts text f from to (m ∷ ms) all =
    (new : List ℕ) × (g : F) × (rest : List ℕ) × Puts f m new g × ReplacedInOrder Puts text g m.end to ms rest
    × (all ≡ slice_range text from m.start ++ (new ++ rest))
