-- Codes that begin with a group of one character and a back-reference to it.
-- Definitions for the search's contracts; what sre_engine makes public does not rest on it.
use Rattle.std.specs.Prelude.{ℕ, ◌+◌, ◌≡◌, ◌<◌, ◌≤◌, ◌⊎◌, Bool, ◌&&◌, true, false, nat_lt, nat_eq, List, Option, Some}
use Rattle.std.specs.Prelude.{None}
use Rattle.sre_chars.specs.declared.constants.SreOpcode.TheVariants as opcode
use Rattle.sre_engine.specs.Terms.{SreOpcode, StringCursor, SetItem, Tree, Test, Subject, char_at, Asked, subject_of}
use Rattle.sre_engine.specs.Terms.{NoWay, Word, Opcode, TestStands, WholeItems, Code, words_of, hints_of, begins_test}
use Rattle.sre_engine.specs.Terms.{uni_of, is_member}
use Rattle.sre_engine.specs.Members.{IsFirstSet, is_among}

-- whether the character at a position comes twice in the window
abbrev pub comes_twice : Subject → ℕ → Bool
comes_twice s p = nat_lt (p + 1) s.end && nat_eq (char_at s (p + 1)) (char_at s p)

-- the test whose opcode is word 2 ends before an address
pub record EndsTest (ws : List ℕ) (behind : ℕ) : Type 0 where
  pub code : SreOpcode
  pub there : Opcode ws 2 code
  pub tests : begins_test code ≡ true
  pub ends : (j : ℕ) (t : Test) → TestStands ws 2 j t → j ≡ behind

-- an address is that of the first item of the body of a REPEAT that owes one, or of the item itself
abbrev pub LeadsInside : List ℕ → ℕ → ℕ → Type 0
LeadsInside ws i first =
    (first ≡ i) ⊎ ((low : ℕ) × (Opcode ws i opcode.REPEAT × Word ws (i + 2) low × (0 < low) × (first ≡ i + 4)))

-- the words begin with a MARK, and from where no character comes twice no tree of theirs has a way
pub record IsDoubled (ws : List ℕ) : Type 0 where
  pub begins : Opcode ws 0 opcode.MARK
  pub none : (t : Tree) → WholeItems ws t → (s : Subject) (p : ℕ) → comes_twice s p ≡ false → NoWay s t p

-- a first set is confirmed, and a character is no member
abbrev pub IsOutside : Code → ℕ → Type 0
IsOutside code c =
    ((hints_of code).first_set ≡ true)
    × ((set : List SetItem) → IsFirstSet (words_of code) set → is_member (uni_of code) set c ≡ false)

-- the same of the window's character at a position
abbrev pub NoneTaken : Asked → Code → ℕ → Type 0
NoneTaken a code p =
    ((hints_of code).first_set ≡ true)
    × ((set : List SetItem) → IsFirstSet (words_of code) set → is_among a set p ≡ false)

-- no character comes twice at a position, or not one that may begin a match
abbrev pub IsNoDouble : Asked → Code → ℕ → Type 0
IsNoDouble a code p = (comes_twice (subject_of a) p ≡ false) ⊎ NoneTaken a code p

-- a cursor is at the next position from one on that is none of these
pub record AtDouble (a : Asked) (code : Code) (p : ℕ) (next : StringCursor) : Type 0 where
  pub from : p ≤ next.position
  pub inside : next.position < a.end
  pub none : (q : ℕ) → p ≤ q → q < next.position → IsNoDouble a code q
  pub member :
      (hints_of code).first_set ≡ true → (set : List SetItem) → IsFirstSet (words_of code) set
      → is_among a set next.position ≡ true

-- the next such position, where there is one up to the window's end
abbrev pub NextDouble : Asked → Code → ℕ → Option StringCursor → Type 0
NextDouble a code p None = (q : ℕ) → p ≤ q → q ≤ a.end → IsNoDouble a code q
NextDouble a code p (Some next) = AtDouble a code p next
