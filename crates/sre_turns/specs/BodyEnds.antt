-- Where the body of an atomic scope ends, as known for a configuration inside: its outcomes begin with that end, and so
-- do those of each equivalent one.
-- Definitions for the machine's contracts: the memo stores such ends beside failures, and the machine goes there at
-- once. What sre_engine makes public does not rest on it.
use Rattle.std.specs.Prelude.{ℕ, ◌≡◌, List}
use Rattle.sre_turns.specs.Terms.{AllByRecursion, Marks, Way, first, here, Run}
use Rattle.sre_turns.specs.Moves.{Spot}
use Rattle.sre_turns.specs.Machine.{Runs}
use Rattle.sre_turns.specs.Alike.{Alike}
use Rattle.sre_turns.specs.Asked.{MarksAlike}

-- each of some outcomes has these marks
abbrev pub AllMarked : Marks → List Way → Type 0
AllMarked m os = AllByRecursion (λ (w : Way). w.marks ≡ m) os

-- of a spot, and of each that is alike, all that comes has the marks that the spot has
pub record MarksStay (r : Run) (x : Spot) : Type 0 where
  pub same : (y : Spot) (os : List Way) (n : ℕ) → Alike r.words x y → Runs r.words r.subject y os n
      → AllMarked y.marks os

-- the first outcome of a spot, and of each that is alike, stops at q, and leaves the marks as they are, as long as the
-- marks that the words ask for are these
pub record EndsAt (r : Run) (m : Marks) (x : Spot) (q : ℕ) : Type 0 where
  pub begins : (y : Spot) (os : List Way) (n : ℕ) → Alike r.words x y → MarksAlike r.words m y.marks
      → Runs r.words r.subject y os n → first os ≡ here q y.marks

-- what comes of a spot, which begins with an end at q, with these marks
pub record CameToEnd (r : Run) (q : ℕ) (m : Marks) (x : Spot) : Type 0 where
  pub outcomes : List Way
  pub turns : ℕ
  pub runs : Runs r.words r.subject x outcomes turns
  pub begins : first outcomes ≡ here q m
