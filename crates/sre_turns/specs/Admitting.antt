-- FIRST sets: what may come next at a point, which is an ASCII character of a set, or one past ASCII. Where another one
-- comes next, the point fails; it fails where the range ends, too, unless the set has every ASCII character.
-- Definitions for the machine's contracts. What is public rests on `AdmitsOnly`, by the lists that a request may carry.
use Rattle.std.specs.Prelude.{⊤, ℕ, ◌+◌, ◌≡◌, ◌<◌, Bool, true, false, List, []}
use Rattle.sre_turns.specs.Terms.{Table, Test, Order, holds, Marks, Subject, char_at, Way, Opcode, word, skip, Role}
use Rattle.sre_turns.specs.Terms.{TestStands, until_opcode}
use Rattle.sre_model.specs.Roles.{ToFail, ToEnd, ToTest, ToCheckPosition, ToMark, ToBranch, ToJump, ToRun, ToRepeat}
use Rattle.sre_model.specs.Roles.{ToLoop, ToRepeatPossessively, ToGroupAtomically, ToLook, ToRefer, ToCheckGroup}
use Rattle.sre_model.specs.Roles.{ToNothing}
use Rattle.sre_turns.specs.declared.Frame.{Frame}
use Rattle.sre_turns.specs.declared.Point.TheVariants.{Instruction, Alternatives}
use Rattle.sre_turns.specs.declared.Point.{Point}
use Rattle.sre_turns.specs.Moves.{spot_at}
use Rattle.sre_turns.specs.Outcomes.{Runs}

-- a character is ASCII and not in a set
abbrev pub IsOutside : (ℕ → Bool) → ℕ → Type 0
IsOutside set c = (c < 128) × (set c ≡ false)

-- such a character comes next at a position, or there is one and the window ends
pub record NextOutside (s : Subject) (set : ℕ → Bool) (p : ℕ) : Type 0 where
  pub character : ℕ
  pub outside : IsOutside set character
  pub next : p < s.end → character ≡ char_at s p

-- nothing comes of a point where such a character comes next: it admits only those of the set
pub record AdmitsOnly (ws : List ℕ) (pt : Point) (set : ℕ → Bool) : Type 0 where
  pub none : (s : Subject) (p : ℕ) → NextOutside s set p
      → (fs : List Frame) (m : Marks) (os : List Way) (n : ℕ) → Runs ws s (spot_at pt fs p m) os n → os ≡ []

-- whatever test stands at a place takes no ASCII character outside a set
pub record TestsOnly (ws : List ℕ) (i : ℕ) (set : ℕ → Bool) : Type 0 where
  pub none : (c : ℕ) → IsOutside set c → (table : Table) (j : ℕ) (t : Test) → TestStands ws i j t
      → holds table t c ≡ false

-- a set has every ASCII character
pub record HasAll (set : ℕ → Bool) : Type 0 where
  pub each : (c : ℕ) → c < 128 → set c ≡ true

-- what repeats at i admits only the characters of a set, by its body, and where it owes none also by what is behind it
pub record RepeatsOnly (ws : List ℕ) (i : ℕ) (set : ℕ → Bool) : Type 0 where
  pub body : AdmitsOnly ws (Instruction (i + 4)) set
  pub behind : word ws (i + 2) ≡ 0 → AdmitsOnly ws (Instruction (skip ws (i + 1) + 1)) set

-- so does a run of a test
pub record RunsOnly (ws : List ℕ) (i : ℕ) (set : ℕ → Bool) : Type 0 where
  pub test : TestsOnly ws (i + 4) set
  pub behind : word ws (i + 2) ≡ 0 → AdmitsOnly ws (Instruction (skip ws (i + 1))) set

-- where an instruction at i goes on, by its role, only the characters of a set are admitted; a region ends at its
-- SUCCESS, and where a body of a loop ends it is not known whose body it was: any character may come there
abbrev pub LeadsOnly : List ℕ → (ℕ → Bool) → Role → ℕ → Type 0
LeadsOnly ws set ToFail i = ⊤
LeadsOnly ws set ToEnd i = HasAll set
LeadsOnly ws set (ToTest kind) i = TestsOnly ws i set
LeadsOnly ws set ToCheckPosition i = AdmitsOnly ws (Instruction (i + 2)) set
LeadsOnly ws set ToMark i = AdmitsOnly ws (Instruction (i + 2)) set
LeadsOnly ws set ToBranch i = AdmitsOnly ws (Alternatives (i + 1)) set
LeadsOnly ws set ToJump i = AdmitsOnly ws (Instruction (skip ws (i + 1))) set
LeadsOnly ws set (ToRun kind) i = RunsOnly ws i set
LeadsOnly ws set ToRepeat i = ((o : Order) × Opcode ws (skip ws (i + 1)) (until_opcode o)) × RepeatsOnly ws i set
LeadsOnly ws set (ToLoop o) i = HasAll set
LeadsOnly ws set ToRepeatPossessively i = RepeatsOnly ws i set
LeadsOnly ws set ToGroupAtomically i = AdmitsOnly ws (Instruction (i + 2)) set
LeadsOnly ws set (ToLook sign) i = AdmitsOnly ws (Instruction (skip ws (i + 1))) set
LeadsOnly ws set ToRefer i = HasAll set
LeadsOnly ws set ToCheckGroup i =
    AdmitsOnly ws (Instruction (i + 3)) set × AdmitsOnly ws (Instruction (i + 1 + word ws (i + 2))) set
LeadsOnly ws set ToNothing i = ⊤
