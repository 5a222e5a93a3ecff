-- The markers of instructions that are tried in the innermost atomic scope: what is known of each of them where its
-- body ends, and which of all that is tried goes then.
use Rattle.std.specs.Prelude.{List, [], ◌∷◌}
use Rattle.sre_turns.specs.Terms.{AllByRecursion}
use Rattle.sre_turns.specs.Board.{Choice, Else, Keep, Trying}
use Rattle.sre_turns.specs.Moves.{Spot, spot_at}

-- the spots that are tried in the innermost region, newest first
abbrev pub open_spots : List Choice → List Spot
open_spots [] = []
open_spots (Else pt fs c m ∷ cs) = open_spots cs
open_spots (Trying pt fs c m ∷ cs) = spot_at pt fs c.position m ∷ open_spots cs
open_spots (Keep g fs c m ∷ cs) = []

-- each of them is one of some kind
abbrev pub EachOpen : (Spot → Type 0) → List Choice → Type 0
EachOpen P cs = AllByRecursion P (open_spots cs)
