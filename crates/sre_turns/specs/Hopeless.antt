-- Hopeless configurations: the machine was there and failed, so it fails at each equivalent one.
-- Definitions for the machine's contracts: the memo of failures stores such configurations, and the machine leaves them
-- at once. What sre_engine makes public does not rest on it.
use Rattle.std.specs.Prelude.{ℕ, ◌≡◌, ◌⊎◌, Bool, List}
use Rattle.sre_turns.specs.Terms.{Marks, Way, Run}
pub use Rattle.sre_turns.specs.Fruit.{fruit, Fruitless, SameFruit, is_inside}
use Rattle.sre_turns.specs.Moves.{Spot}
use Rattle.sre_turns.specs.Machine.{Runs}
use Rattle.sre_turns.specs.Alike.{Alike}
use Rattle.sre_turns.specs.Asked.{MarksAlike, MarksIdle}

-- what is known under some marks serves a spot: the marks that the words ask for are these, or none makes a difference
abbrev pub MarksServe : List ℕ → Marks → Spot → Type 0
MarksServe ws m x = MarksAlike ws m x.marks ⊎ MarksIdle ws x

-- nothing comes of a spot, nor of one that is alike, where these marks serve
pub record Hopeless (r : Run) (inside : Bool) (m : Marks) (x : Spot) : Type 0 where
  pub none : (y : Spot) (os : List Way) (n : ℕ) → Alike r.words x y → MarksServe r.words m y
      → Runs r.words r.subject y os n → Fruitless r inside os

-- whether an outcome is accepted is told by where it stops
abbrev pub AcceptsByStop : Run → Type 0
AcceptsByStop r = (v w : Way) → v.stop ≡ w.stop → r.accepts v ≡ r.accepts w
