-- What a list says of each address: which captures may be live from there on, and which ASCII characters a set takes.
-- Definitions for the machine's contracts; what sre_engine makes public does not rest on it.
use Rattle.std.specs.Prelude.{ℕ, ◌≡◌, List, Option, Some, slice_get, ◌-◌, ◌^◌, ◌⊎◌, None}
use Rattle.sre_machine.specs.Terms.{AreTold, AsciiSet, SreOpcode, Opcode, role}
use Rattle.sre_turns.specs.Asked.{MarkRange, Lies, Within, PlacesAsk, AsksAt, AskedByPlace}
use Rattle.sre_machine.specs.declared.asked_places.AskedMarks.{AskedMarks}
use Rattle.sre_machine.specs.declared.asked_places.AskedPlace.{AskedPlace}

-- what a list tells of the set at each place
pub record AllTold (ws : List ℕ) (list : List (Option AsciiSet)) : Type 0 where
  pub each : (i : ℕ) (members : Option AsciiSet) → slice_get list i ≡ Some members → AreTold ws i members

-- the marks from one on, up to another
abbrev pub range_of : AskedMarks → MarkRange
range_of m = record { from = m.from; end = m.end }

-- any mark of a group that a word names
abbrev pub any_marks : AskedMarks
any_marks = record { from = 0; end = 2 ^ 64 - 1 }

-- any mark may be asked for
abbrev pub asks_for_any : AskedPlace
asks_for_any = record { instruction = any_marks; alternatives = any_marks }

-- what is told of a place, and any mark where nothing is
abbrev pub told_or_any : Option AskedPlace → AskedPlace
told_or_any None = asks_for_any
told_or_any (Some asked) = asked

-- what a list tells of the places
abbrev pub asks_of : List AskedPlace → PlacesAsk
asks_of list = record {
  instruction = λ i. range_of (told_or_any (slice_get list i)).instruction;
  alternatives = λ q. range_of (told_or_any (slice_get list q)).alternatives;
}

-- what a list tells is so of each place
pub record AllAsked (ws : List ℕ) (list : List AskedPlace) : Type 0 where
  pub told : AskedByPlace (λ k. ⊥) ws (asks_of list)

-- all that a list tells are such marks
pub record AreMarks (list : List AskedPlace) : Type 0 where
  pub instruction : (i : ℕ) → Within ((asks_of list).instruction i) (range_of any_marks)
  pub alternatives : (q : ℕ) → Within ((asks_of list).alternatives q) (range_of any_marks)

-- marks have all of a range
pub record HaveAll (marks : AskedMarks) (r : MarkRange) : Type 0 where
  pub all : Within r (range_of marks)

-- marks are others but for one
pub record LetGo (mark : ℕ) (marks others : AskedMarks) : Type 0 where
  pub each : (k : ℕ) → Lies k (range_of others) → Lies k (range_of marks) ⊎ (k ≡ mark)

-- marks have what the instruction at i asks for, by what a list tells of where it goes on
pub record InstructionAsks (ws : List ℕ) (list : List AskedPlace) (i : ℕ) (marks : AskedMarks) : Type 0 where
  pub each : (o : SreOpcode) → Opcode ws i o → AsksAt (λ k. ⊥) ws (asks_of list) (range_of marks) (role o) i
