-- Scans of the bytecode from one instruction to the next: a summary of the tree, and how many counter states it has.
-- Definitions for the check's contracts; what sre_engine makes public does not rest on it.
use Rattle.std.specs.Prelude.{ℕ, ◌+◌, ◌-◌, ◌≡◌, List, Option, Some, None, ◌<◌, ◌⊎◌, ◌^◌, true, false, ◌||◌, nat_lt, min}
use Rattle.std.specs.Prelude.{max, ◌*◌, ◌≤◌}
use Rattle.sre_code.specs.Terms.{SreOpcode, Role, role, Opcode, skip, Test, Tree, refers, longest_lookbehind}
use Rattle.sre_code.specs.Terms.{marks_in_regions, has_forked_region, no_group, asked_from, asked_to, backs, Order}
use Rattle.sre_code.specs.Terms.{Word, Operands, Reads, loop_slots, most_slots}
use Rattle.sre_model.specs.Roles.{ToRepeatPossessively, ToGroupAtomically, ToLook, ToFail, ToMark, ToBranch, ToRun}
use Rattle.sre_model.specs.Roles.{ToRepeat, ToRefer, ToEnd, ToCheckPosition, ToJump, ToLoop}
use Rattle.sre_model.specs.Tree.{Loop}
use Rattle.sre_chars.specs.declared.constants.SreOpcode.TheVariants as opcode
use Rattle.sre_code.specs.Reading.{ReadsTest}
use Rattle.sre_code.specs.declared.code.summary.Summary.{Summary}
use Rattle.sre_code.specs.declared.code.slots.Kind.{Kind}
use Rattle.sre_code.specs.declared.code.slots.Kind.TheVariants as kind
use Rattle.sre_code.specs.declared.code.slots.Passed.{Passed}

-- where the SUCCESS stands that ends a region's body, by where its skip leads: there, or before it; None for others
abbrev pub closing_place : Role → ℕ → Option ℕ
closing_place ToRepeatPossessively tail = Some tail
closing_place ToGroupAtomically tail = Some (tail - 1)
closing_place (ToLook sign) tail = Some (tail - 1)
closing_place _ tail = None

-- at i stands a region whose body ends at e, or operands that look like one
pub record RegionWord (ws : List ℕ) (i e : ℕ) : Type 0 where
  pub code : SreOpcode
  pub there : Opcode ws i code
  pub ends : closing_place (role code) (skip ws (i + 1)) ≡ Some e
  pub closed : Opcode ws e opcode.SUCCESS

-- how many words an instruction has before its body or what is behind it: with a BRANCH and a JUMP goes the length word
-- behind them; None for tests, which differ in that, and for conditions
abbrev pub own_words : Role → Option ℕ
own_words ToFail = Some 1
own_words ToEnd = Some 1
own_words (ToLoop order) = Some 1
own_words ToCheckPosition = Some 2
own_words ToMark = Some 2
own_words ToBranch = Some 2
own_words ToGroupAtomically = Some 2
own_words ToRefer = Some 2
own_words ToJump = Some 3
own_words (ToLook sign) = Some 3
own_words (ToRun kind) = Some 4
own_words ToRepeat = Some 4
own_words ToRepeatPossessively = Some 4
own_words _ = None

-- at i stands an instruction that is no condition, and the next one at k
pub record Behind (ws : List ℕ) (i k : ℕ) : Type 0 where
  pub one :
      ((t : Test) × ReadsTest ws i k t)
      ⊎ ((o : SreOpcode) × (n : ℕ) × Opcode ws i o × (own_words (role o) ≡ Some n) × (k ≡ i + n))

-- no such instruction stands at i
pub record NoneBehind (ws : List ℕ) (i : ℕ) : Type 0 where
  pub none : (k : ℕ) → Behind ws i k → ⊥

-- where the next instruction stands, or that no such one is there
abbrev pub NextAt : List ℕ → ℕ → Option ℕ → Type 0
NextAt ws i (Some k) = (i < k) × Behind ws i k
NextAt ws i None = NoneBehind ws i

-- a branch, a run or a loop at i, which is in an atomic scope if one that has begun ends behind it
abbrev pub forking : ℕ → Summary → Summary
forking i m = record m { forks = nat_lt i m.farthest || m.forks }

-- an atomic scope, by where its body ends
abbrev pub opening : ℕ → Summary → Summary
opening end m = record m { farthest = max m.farthest end }

-- what is noted of an instruction at i, by its role and the two words behind its opcode
abbrev pub noted : Role → ℕ → ℕ → ℕ → Summary → Summary
noted ToMark i first second m = record m { marks = nat_lt i m.farthest || m.marks }
noted ToBranch i first second m = forking i m
noted (ToRun kind) i first second m = forking i m
noted ToRepeat i first second m = forking i m
noted ToRepeatPossessively i first second m = record (opening (i + 1 + first) m) { forks = true }
noted ToGroupAtomically i first second m = opening (i + first) m
noted (ToLook sign) i first second m =
    record (opening (i + first) m) {
      longest = max m.longest second;
      backs = min (m.backs + second) (2 ^ 64 - 1);
    }
noted ToRefer i first second m = record m {
  refers = true;
  from = min m.from first;
  to = max m.to (min no_group first);
}
noted _ i first second m = m

-- what is said of a tree. Where it has a condition, nothing is known of its lookbehinds, captures and forks
pub record IsSummary (t : Tree) (s : Summary) : Type 0 where
  pub from : s.from ≡ asked_from t
  pub to : s.to ≡ min no_group (asked_to t)
  pub longest : refers t ≡ false → s.longest ≡ longest_lookbehind t
  pub backs : refers t ≡ false → min s.backs (2 ^ 64 - 1) ≡ min (backs t) (2 ^ 64 - 1)
  pub unmarked : s.marks ≡ false → marks_in_regions t ≡ false
  pub marked : refers t ≡ false → s.marks ≡ marks_in_regions t
  pub forked : refers t ≡ false → s.forks ≡ has_forked_region t
  pub refers : s.refers ≡ refers t

-- the slots of a tree, or that it has more than so many, if it does not refer to groups
abbrev pub TreeTold : ℕ → Tree → Option ℕ → Type 0
TreeTold most t (Some n) = (n ≡ most_slots t) × (n ≤ most)
TreeTold most t None = refers t ≡ false → most < most_slots t

-- what is told of the words from i up to e, whatever tree they have
pub record AreTold (most : ℕ) (ws : List ℕ) (i e : ℕ) (r : Option ℕ) : Type 0 where
  pub each : (t : Tree) → Reads ws i e t → TreeTold most t r

-- what is told of a loop with so many slots that ends at j
abbrev pub PassedTold : ℕ → ℕ → ℕ → Tree → Option Passed → Type 0
PassedTold most slots j body (Some p) = (p.behind ≡ j) × (p.slots ≡ slots) × (slots ≤ most)
PassedTold most slots j body None = refers body ≡ false → most < slots

pub record LoopTold (most : ℕ) (ws : List ℕ) (i : ℕ) (r : Option Passed) : Type 0 where
  pub each :
      (o : Order) (low high : ℕ) (body : Tree) (j : ℕ) → Operands ws i j (Loop o low high body)
      → PassedTold most (loop_slots low high * most_slots body) j body r

-- what is told of a possessive loop with so many slots, whose body begins at b: it has too many, or the words before
-- the body are passed
abbrev pub OwnTold : ℕ → ℕ → ℕ → Option Passed → Type 0
OwnTold most slots b (Some p) = (slots ≤ most) × (p ≡ record { behind = b; slots = slots })
OwnTold most slots b None = most < slots

pub record PossessiveTold (most : ℕ) (ws : List ℕ) (i : ℕ) (r : Option Passed) : Type 0 where
  pub each :
      (low high : ℕ) → Word ws (i + 2) low → Word ws (i + 3) high → OwnTold most (loop_slots low high) (i + 4) r

-- any other instruction has one slot
abbrev pub OtherTold : List ℕ → ℕ → Option Passed → Type 0
OtherTold ws i (Some p) = Behind ws i p.behind × (p.slots ≡ 1)
OtherTold ws i None = NoneBehind ws i

abbrev pub kind_of : Role → Kind
kind_of ToRepeat = kind.Loop
kind_of ToRepeatPossessively = kind.PossessiveLoop
kind_of _ = kind.Other

abbrev pub ToldBy : Kind → ℕ → List ℕ → ℕ → Option Passed → Type 0
ToldBy kind.Loop most ws i r = LoopTold most ws i r
ToldBy kind.PossessiveLoop most ws i r = PossessiveTold most ws i r
ToldBy kind.Other most ws i r = OtherTold ws i r

-- what is told of the instruction at i, by what it is
pub record ToldAt (most : ℕ) (ws : List ℕ) (i : ℕ) (r : Option Passed) : Type 0 where
  pub by : (o : SreOpcode) → Opcode ws i o → ToldBy (kind_of (role o)) most ws i r
