-- What is at an address of the bytecode: a set, or a test of one character.
-- Definitions for the machine's contracts; what sre_engine makes public does not rest on it.
use Rattle.std.specs.Prelude.{ℕ, ◌≡◌, ◌<◌, ◌≤◌, Bool, true, cond, List}
use Rattle.sre_chars.specs.Numbers.{category_number}
use Rattle.sre_chars.specs.Tables.{Table}
use Rattle.sre_chars.specs.declared.constants.SreCatCode.{SreCatCode}
use Rattle.sre_chars.specs.declared.constants.SreOpcode.TheVariants as opcode
use Rattle.sre_model.specs.Tree.{SetItem, Test}
use Rattle.sre_model.specs.Characters.{verdict}
use Rattle.sre_model.specs.Ways.{unlimited}
use Rattle.sre_model.specs.Grammar.{Word, Opcode, ReadsSet, test_opcode, TestOperands}

-- word i is the number of a category's code
pub record HasCategory (ws : List ℕ) (i : ℕ) : Type 0 where
  pub code : SreCatCode
  pub there : Word ws i (category_number code)

-- a set's items are the words of [i, j), and FAILURE is at j
pub record SetStands (ws : List ℕ) (i j : ℕ) (set : List SetItem) : Type 0 where
  pub items : ReadsSet ws i j set
  pub ends : Opcode ws j opcode.FAILURE

-- some set is at i
pub record HasSet (ws : List ℕ) (i : ℕ) : Type 0 where
  pub end : ℕ
  pub set : List SetItem
  pub stands : SetStands ws i end set

-- the item at i decides on c as soon as it holds, and else the items from next on do
pub record ItemSays (ws : List ℕ) (table : Table) (i c : ℕ) (holds : Bool) (next : ℕ) : Type 0 where
  pub later : i < next
  pub each : (j : ℕ) (set : List SetItem) → SetStands ws i j set
      → (rest : List SetItem) × SetStands ws next j rest
      × ((taken : Bool) → verdict table taken set c ≡ cond holds taken (verdict table taken rest c))

-- the verdict on c of a set at start is that of what is left of it at i
pub record VerdictLeft (ws : List ℕ) (table : Table) (start c i : ℕ) (taken : Bool) : Type 0 where
  pub each : (j : ℕ) (set : List SetItem) → SetStands ws start j set
      → (rest : List SetItem) × SetStands ws i j rest × (verdict table true set c ≡ verdict table taken rest c)

-- a test is the words of [i, j)
pub record TestStands (ws : List ℕ) (i j : ℕ) (t : Test) : Type 0 where
  pub code : Opcode ws i (test_opcode t)
  pub operands : TestOperands ws i j t

-- some test is at i
pub record HasTest (ws : List ℕ) (i : ℕ) : Type 0 where
  pub end : ℕ
  pub test : Test
  pub stands : TestStands ws i end test

-- words are below 2^32
pub record AreWords (ws : List ℕ) : Type 0 where
  pub fits : (i v : ℕ) → Word ws i v → v ≤ unlimited
