-- What a code's first words lead to: its first test, and its first position code.
-- Definitions for the search's contracts; what is public does not rest on it.
use Rattle.std.specs.Prelude.{ℕ, ◌≡◌, ◌⊎◌, Bool, true, false, List, Option, Some, None}
use Rattle.sre_engine.specs.Terms.{SreAtCode, SreOpcode, Tree, Test, Opcode, WholeItems, Role, role, TestStands}
use Rattle.sre_engine.specs.Terms.{TreeStands}
use Rattle.sre_model.specs.Roles.{ToMark, ToCheckPosition}
use Rattle.sre_engine.specs.Beginnings.{first_test, first_code}
use Rattle.sre_engine.specs.declared.engine.first_characters.First.{First}
use Rattle.sre_engine.specs.declared.engine.first_characters.Wanted.{Wanted}
use Rattle.sre_engine.specs.declared.engine.first_characters.Wanted.TheVariants as wanted

-- whether an item may come before the first test: a mark or a position code
abbrev pub is_passed : Role → Bool
is_passed ToMark = true
is_passed ToCheckPosition = true
is_passed r = false

-- no such item is at an address
pub record IsPast (ws : List ℕ) (i : ℕ) : Type 0 where
  pub other : (o : SreOpcode) → Opcode ws i o → is_passed (role o) ≡ false

-- a tree is at an address, as far back as the start, and a statement holds of it
pub record Ahead (ws : List ℕ) (i back : ℕ) (Holds : Tree → Type 0) : Type 0 where
  pub tree : Tree
  pub stands : TreeStands ws i tree
  pub holds : Holds tree
  pub near : back ≡ 0

-- the first test of a tree at a start is that of one at an address
pub record LeadsToTest (ws : List ℕ) (start i back : ℕ) : Type 0 where
  pub ahead :
      (t : Tree) → TreeStands ws start t → (test : Test) → first_test t ≡ Some test
      → Ahead ws i back (λ u. first_test u ≡ Some test)

-- its first position code is read, or is that of one at an address
pub record LeadsToCode (ws : List ℕ) (start i back : ℕ) (at : Option SreAtCode) : Type 0 where
  pub ahead :
      (t : Tree) → TreeStands ws start t → (code : SreAtCode) → first_code t ≡ Some code
      → (at ≡ Some code) ⊎ ((at ≡ None) × Ahead ws i back (λ u. first_code u ≡ Some code))

-- a test is at an address
pub record IsTestAt (ws : List ℕ) (i : ℕ) (test : Test) : Type 0 where
  pub end : ℕ
  pub stands : TestStands ws i end test

-- a test is what is wanted
abbrev pub Wants : List ℕ → Wanted → Test → Type 0
Wants ws wanted.Anything test = ⊥
Wants ws (wanted.Test place) test = IsTestAt ws place test
Wants ws (wanted.Set place set) test = IsTestAt ws place test
Wants ws (wanted.Characters set) test = ⊥

-- the first test is wanted at the start, and the first position code is read
pub record WantsFirst (ws : List ℕ) (first : First) : Type 0 where
  pub test :
      (t : Tree) → WholeItems ws t → (test : Test) → first_test t ≡ Some test
      → (first.back ≡ 0) × Wants ws first.wanted test
  pub code : (t : Tree) → WholeItems ws t → (code : SreAtCode) → first_code t ≡ Some code → first.at ≡ Some code
