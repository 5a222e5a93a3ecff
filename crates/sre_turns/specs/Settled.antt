-- Where the machine is in a search over bytecode whose steps are counted: in the bytecode of its tree, in the range
-- from a start on, and after where the last bodies of its loops began.
-- For the law that the step bound suffices. What sre_engine makes public does not rest on it.
use Rattle.std.specs.Prelude.{ℕ, ◌≤◌, ◌≡◌, false, List}
use Rattle.sre_turns.specs.Terms.{Tree, Subject, WholeItems, refers, Run}
use Rattle.sre_turns.specs.Moves.{Spot}
use Rattle.sre_turns.specs.Alike.{least_from}
use Rattle.sre_turns.specs.Nested.{Lies, Passed, InWindow}

pub record Settled (ws : List ℕ) (s : Subject) (t : Tree) (w : WholeItems ws t) (start : ℕ) (x : Spot) : Type 0 where
  pub lies : Lies ws t w x
  pub passed : Passed x
  pub inside : InWindow s x
  pub from : start ≤ least_from x.point x.position

-- a run over the words of a tree without references
pub record Counted (r : Run) : Type 0 where
  pub tree : Tree
  pub whole : WholeItems r.words tree
  pub no_reference : refers tree ≡ false

abbrev pub SettledIn : (r : Run) → Counted r → ℕ → Spot → Type 0
SettledIn r pl start x = Settled r.words r.subject pl.tree pl.whole start x
