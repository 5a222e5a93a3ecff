-- The FIRST set of a code, and where a match may begin by it.
-- Public clauses rest on it.
use Rattle.sre_chars.specs.declared.constants.SreOpcode.TheVariants as opcode
use Rattle.std.specs.Prelude.{ℕ, ◌-◌, ◌≡◌, ◌<◌, ◌≤◌, Bool, true, false, List, Option, Some, None}
use Rattle.sre_engine.specs.Terms.{StringCursor, SetItem, is_member, after, Opcode, skip, Asked, subject_of, ReadsSet}

-- the words from word 5 up to the block's end are a set's
abbrev pub IsFirstSet : List ℕ → List SetItem → Type 0
IsFirstSet words set = ReadsSet words 5 (skip words 1 - 1) set × Opcode words (skip words 1 - 1) opcode.FAILURE

-- whether the window's character at a position is a member
abbrev pub is_among : Asked → List SetItem → ℕ → Bool
is_among a set p = after (subject_of a) (is_member a.table set) p

-- no position from one on up to before another one is at a member
pub record NoMember (a : Asked) (set : List SetItem) (p q : ℕ) : Type 0 where
  pub each : (s : ℕ) → p ≤ s → s < q → is_among a set s ≡ false

-- a cursor is at the first member from a position on
pub record AtMember (a : Asked) (words : List ℕ) (p : ℕ) (next : StringCursor) : Type 0 where
  pub from : p ≤ next.position
  pub inside : next.position < a.end
  pub none : (set : List SetItem) → IsFirstSet words set → NoMember a set p next.position
  pub member : (set : List SetItem) → IsFirstSet words set → is_among a set next.position ≡ true

-- the next member, where there is one up to the window's end
abbrev pub NextMember : Asked → List ℕ → ℕ → Option StringCursor → Type 0
NextMember a words p None = (set : List SetItem) → IsFirstSet words set → NoMember a set p a.end
NextMember a words p (Some next) = AtMember a words p next

-- a cursor is at a member from a position on
pub record IsMemberFrom (a : Asked) (words : List ℕ) (p : ℕ) (next : StringCursor) : Type 0 where
  pub from : p ≤ next.position
  pub inside : next.position < a.end
  pub member : (set : List SetItem) → IsFirstSet words set → is_among a set next.position ≡ true
