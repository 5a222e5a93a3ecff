-- Instructions that are tried, inside an atomic scope or not.
-- For the law that the step bound suffices: the memo of failures takes in a bit for each. What sre_engine makes public
-- does not rest on it.
use Rattle.std.specs.Prelude.{Bool}
use Rattle.sre_turns.specs.Moves.{Spot}

-- an instruction that is tried, inside a region or not
pub record Attempt : Type 0 where
  pub inside : Bool
  pub spot : Spot
