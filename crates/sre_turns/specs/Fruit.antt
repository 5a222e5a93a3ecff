-- The outcome of an instruction that is tried. Its first outcome that counts is the first that counts of what is to
-- come: where the machine backtracks there was none, and where the body of an atomic scope ends that end is the first.
-- Definitions for the machine's contracts; what sre_engine makes public does not rest on it.
use Rattle.std.specs.Prelude.{◌≡◌, Bool, true, false, List, [], ◌∷◌}
use Rattle.sre_turns.specs.Terms.{filter, Way, first, Run}
use Rattle.sre_turns.specs.Board.{Choice, from_region}

-- what counts of some outcomes: inside a region each, outside all regions those that are accepted
abbrev pub fruit : Run → Bool → List Way → List Way
fruit r true os = os
fruit r false os = filter r.accepts os

-- that nothing came
abbrev pub Fruitless : Run → Bool → List Way → Type 0
Fruitless r inside os = fruit r inside os ≡ []

-- the first that counts of some outcomes is that of others
abbrev pub SameFruit : Run → Bool → List Way → List Way → Type 0
SameFruit r inside os now = first (fruit r inside os) ≡ first (fruit r inside now)

-- whether what waits is inside a region
abbrev pub is_inside : List Choice → Bool
is_inside cs = elim (from_region cs) [ [] ↦ false | (c ∷ rest) ↦ true ]
