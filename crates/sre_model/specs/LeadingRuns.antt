-- Repeats of one character: as they are counted, and at the front of a tree without a greatest count, perhaps after one
-- test of a character.
-- Definitions for the contracts of the machine and the search; what sre_engine makes public does not rest on it.
use Rattle.std.specs.Prelude.{ℕ, ◌+◌, ◌≡◌, ◌<◌, ◌≤◌, Bool, not, ⊤, true, false, List, Option, Some, None}
use Rattle.sre_chars.specs.declared.string.StringCursor.{StringCursor}
use Rattle.sre_model.specs.Tree.{Test, Tree}
use Rattle.sre_model.specs.Subject.{passes, Subject}
use Rattle.sre_model.specs.Runs.{Run}
use Rattle.sre_model.specs.Standing.{TestStands}
use Rattle.std.specs.List.{AllByRecursion}
use Rattle.sre_model.specs.Marks.{Marks}
use Rattle.sre_model.specs.Ways.{Way, unlimited, longest_run, ways}

-- the test at i says what is wanted of the first count characters from start on, and the cursor stands behind them
pub record Counted (r : Run) (i : ℕ) (wanted : Bool) (most : ℕ) (start cursor : StringCursor) (count : ℕ) : Type 0 where
  pub within : count ≤ most
  pub position : cursor.position ≡ start.position + count
  pub stands : r.stands cursor cursor.position
  pub each : (j q : ℕ) (t : Test) → TestStands r.words i j t → start.position ≤ q → q < cursor.position
      → passes r.subject t q ≡ wanted

-- and not of the next one, where more are allowed
pub record Ended (r : Run) (i : ℕ) (wanted : Bool) (most : ℕ) (start cursor : StringCursor) (count : ℕ) : Type 0 where
  pub counted : Counted r i wanted most start cursor count
  pub ends : count < most → (j : ℕ) (t : Test) → TestStands r.words i j t
      → passes r.subject t cursor.position ≡ not wanted

-- whether the test in front takes the character at p, where there is one
abbrev pub front_passes : Subject → Option Test → ℕ → Bool
front_passes s None p = true
front_passes s (Some x) p = passes s x p

-- how many characters it takes
abbrev pub front_length : Option Test → ℕ
front_length None = 0
front_length (Some x) = 1

-- none of some ways ends where it is accepted
abbrev pub NoneEnds : (ℕ → Bool) → List Way → Type 0
NoneEnds accepts ws = AllByRecursion (λ (w : Way). accepts w.stop ≡ false) ws

-- the tree begins with a run of the test: where no way from p ends accepted, none does from any start up to that from
-- which the run would begin at the end of the run from p
pub record RunLeads (t : Tree) (front : Option Test) (test : Test) : Type 0 where
  pub none :
      (s : Subject) (accepts : ℕ → Bool) (p q : ℕ) (m : Marks) → front_passes s front p ≡ true → p ≤ q →
      q ≤ p + longest_run s test unlimited (p + front_length front) → NoneEnds accepts (ways s t p m) →
      NoneEnds accepts (ways s t q m)

-- the test whose opcode is at a place, where there is one
abbrev pub FrontStands : List ℕ → Option ℕ → Option Test → Type 0
FrontStands ws None None = ⊤
FrontStands ws (Some i) (Some x) = (j : ℕ) × TestStands ws i j x
FrontStands ws _ _ = ⊥

-- the tree begins with a run, whose test is at a place of the words
pub record RunStands (ws : List ℕ) (t : Tree) (first : Option ℕ) (place : ℕ) : Type 0 where
  pub front : Option Test
  pub test : Test
  pub end : ℕ
  pub before : FrontStands ws first front
  pub stands : TestStands ws place end test
  pub leads : RunLeads t front test
