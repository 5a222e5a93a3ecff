-- The first matches, where no more than so many are wanted, the steps left, and budgets that outlast an iteration.
-- Of the specification: what sre_recipes makes public rests on it.
use Rattle.std.specs.Prelude.{⊤, ℕ, ◌≡◌, ◌≤◌, ◌<◌, ◌+◌, ◌-◌, ◌*◌, List, Option, Some, None, take}
use Rattle.sre_recipes.specs.Terms.{Code, words_of, Asked, Match, Whole, Tree}
use Rattle.sre_model.specs.TurnBounds.{RunsWithin}
use Rattle.sre_model.specs.WalkBounds.{most_matches}

abbrev pub first_of : Option ℕ → List Match → List Match
first_of None ms = ms
first_of (Some n) ms = take n ms

-- no more steps are left than were given; without a limit there stays none
abbrev pub AreLeft : Option ℕ → Option ℕ → Type 0
AreLeft None left = left ≡ None
AreLeft (Some given) None = ⊥
AreLeft (Some given) (Some left) = left ≤ given

-- how many runs a walk begins at most, but for those that begin again: one for each start, and one more for each match
abbrev pub most_runs : Asked → ℕ
most_runs a = (a.end + 1 - a.start) + most_matches a

-- a budget of more steps than all runs of a walk can take, each of which may begin again once
pub record OutlastWalk (a : Asked) (code : Code) (steps : ℕ) : Type 0 where
  pub tree : Tree
  pub whole : Whole (words_of code) tree
  pub most : ℕ
  pub within : RunsWithin a tree most
  pub more : 2 * most_runs a * most < steps

-- no limit outlasts any walk
abbrev pub Outlast : Asked → Code → Option ℕ → Type 0
Outlast a code None = ⊤
Outlast a code (Some steps) = OutlastWalk a code steps
