-- A match with its groups, as it shows.
-- Of the specification: what sre_recipes makes public rests on it.
use Rattle.std.specs.Prelude.{ℕ, List, map, Option}
use Rattle.sre_recipes.specs.Terms.{option_map}
use Rattle.sre_recipes.specs.declared.groups.CapturesOf.{CapturesOf}

-- the characters of each text, as texts of this type have them
abbrev pub captures_shown : {S A : Type 0} → (S → List ℕ) → CapturesOf S A → List (Option (List ℕ))
captures_shown text c = map (option_map text) c.groups.items
