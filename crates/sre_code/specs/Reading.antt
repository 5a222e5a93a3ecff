-- Words, sets and tests: what the check's answers say of them.
-- Definitions for the check's contracts; what sre_engine makes public does not rest on it.
use Rattle.std.specs.Prelude.{ℕ, ◌≡◌, ◌≢◌, ◌<◌, ◌≤◌, List, length, Result, Ok, Err}
use Rattle.sre_code.specs.Terms.{SreOpcode, Fold, Test, SetItem, Word, word, skip, Opcode, ReadsSet, test_opcode}
use Rattle.sre_code.specs.Terms.{TestOperands}
use Rattle.sre_code.specs.Refusals.{place_of}
use Rattle.sre_code.specs.declared.code.error.CodeError.{CodeError}
use Rattle.sre_code.specs.declared.code.error.CodeError.TheVariants.{Memory}

-- a fault of the words: its place is at most their number, and it is not that memory was refused
abbrev pub IsFault : List ℕ → CodeError → Type 0
IsFault ws e = (place_of e ≤ length ws) × (e ≢ Memory)

-- the word at i, where it is there
abbrev pub OperandAt : List ℕ → ℕ → Result ℕ CodeError → Type 0
OperandAt ws i (Ok v) = (i < length ws) × (v ≡ word ws i)
OperandAt ws i (Err e) = (length ws ≤ i) × IsFault ws e

-- where the skip word at i leads, where it is there
abbrev pub SkipAt : List ℕ → ℕ → Result ℕ CodeError → Type 0
SkipAt ws i (Ok p) = (i < length ws) × (p ≡ skip ws i)
SkipAt ws i (Err e) = (length ws ≤ i) × IsFault ws e

-- no code's number is at i
pub record NoCode {C : Type 0} (number : C → ℕ) (ws : List ℕ) (i : ℕ) : Type 0 where
  pub none : (c : C) → Word ws i (number c) → ⊥

-- the code whose number is at i, where there is one
abbrev pub CodeAt : {C : Type 0} → (C → ℕ) → List ℕ → ℕ → Result C CodeError → Type 0
CodeAt number ws i (Ok c) = (i < length ws) × Word ws i (number c)
CodeAt number ws i (Err e) = NoCode number ws i × IsFault ws e

-- an opcode is at i, under one of the foldings
pub record FoldedAt (opcode_of : Fold → SreOpcode) (ws : List ℕ) (i : ℕ) : Type 0 where
  pub fold : Fold
  pub there : Opcode ws i (opcode_of fold)

-- the words of [i, j) are a test
abbrev pub ReadsTest : List ℕ → ℕ → ℕ → Test → Type 0
ReadsTest ws i j t = Opcode ws i (test_opcode t) × TestOperands ws i j t

-- a test is at i and ends at j, as each test there does
pub record TestExactly (ws : List ℕ) (i j : ℕ) : Type 0 where
  pub test : Test
  pub reads : ReadsTest ws i j test
  pub only : (k : ℕ) (t : Test) → ReadsTest ws i k t → k ≡ j

-- no test is at i
pub record NoTest (ws : List ℕ) (i : ℕ) : Type 0 where
  pub none : (k : ℕ) (t : Test) → ReadsTest ws i k t → ⊥

-- where the test at i ends, or that none is there
abbrev pub TestEnds : List ℕ → ℕ → Result ℕ CodeError → Type 0
TestEnds ws i (Ok j) = (i < j) × TestExactly ws i j
TestEnds ws i (Err e) = NoTest ws i × IsFault ws e

-- the words of [i, j) are a set's items
abbrev pub SetAt : List ℕ → ℕ → ℕ → Type 0
SetAt ws i j = (set : List SetItem) × ReadsSet ws i j set

-- the set's item at i ends at p
pub record SetItemExactly (ws : List ℕ) (i p : ℕ) : Type 0 where
  pub sound : (j : ℕ) → SetAt ws p j → SetAt ws i j
  pub complete : (j : ℕ) → i < j → SetAt ws i j → SetAt ws p j

-- no set's item is at i
pub record NoSetItem (ws : List ℕ) (i : ℕ) : Type 0 where
  pub none : (j : ℕ) → i < j → SetAt ws i j → ⊥

-- where the set's item at i ends, or that none is there
abbrev pub SetItemEnds : List ℕ → ℕ → Result ℕ CodeError → Type 0
SetItemEnds ws i (Ok p) = (i < p) × SetItemExactly ws i p
SetItemEnds ws i (Err e) = NoSetItem ws i × IsFault ws e

pub record IsSet (ws : List ℕ) (i j : ℕ) : Type 0 where
  pub set : SetAt ws i j

pub record NoSet (ws : List ℕ) (i j : ℕ) : Type 0 where
  pub none : SetAt ws i j → ⊥

-- whether a set's items fill [i, j)
abbrev pub SetFills : {U : Type 0} → List ℕ → ℕ → ℕ → Result U CodeError → Type 0
SetFills ws i j (Ok _) = IsSet ws i j
SetFills ws i j (Err e) = NoSet ws i j × IsFault ws e

-- the items from i on and those from k on fill the words up to j alike
pub record SameSets (ws : List ℕ) (i k j : ℕ) : Type 0 where
  pub to : SetAt ws i j → SetAt ws k j
  pub from : SetAt ws k j → SetAt ws i j
