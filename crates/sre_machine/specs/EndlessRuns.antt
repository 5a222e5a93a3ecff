-- Repeats without a greatest count, while failures are memoized: their first end, and the repeat that has the others.
-- Definitions for the machine's contracts; what sre_engine makes public does not rest on it.
use Rattle.std.specs.Prelude.{ℕ, ◌+◌, ◌^◌, ◌<◌, ◌≡◌, ◌⊎◌, true, false, Option, MatchOption}
use Rattle.sre_machine.specs.Terms.{Ghosts, Request, run_of, OperandsOfRun, StringCursor, Test, RunsOn, OpcodeAt}
use Rattle.sre_machine.specs.Terms.{Standing, passes, run_length, TestStands, AllPass}
use Rattle.sre_machine.specs.declared.character_repeats.RunOperands.{RunOperands}
use Rattle.sre_chars.specs.declared.constants.SreOpcode.TheVariants as opcode

-- the operands of the run at a place, to which a word can be added
pub record AreOperands {S : Type 0} {text : Ghosts S} (r : Request S text) (place : ℕ) (o : RunOperands) : Type 0 where
  pub operands : OperandsOfRun (run_of r).words place o.tail o.least o.greatest
  pub room : place + 2 ^ 33 < 2 ^ 64

-- a run without a greatest count is at a place
abbrev pub IsEndlessRun : {S : Type 0} {text : Ghosts S} → Request S text → ℕ → Type 0
IsEndlessRun r place = RunsOn (run_of r).words place

-- a greedy or a lazy run is at a place, which may have other ends beside its longest
abbrev pub HasOtherEnds : {S : Type 0} {text : Ghosts S} → Request S text → ℕ → Type 0
HasOtherEnds r place = OpcodeAt r place opcode.REPEAT_ONE ⊎ OpcodeAt r place opcode.MIN_REPEAT_ONE

-- the character at p passes the test at a place; so do all from p up to q
abbrev pub TakenAt : {S : Type 0} {text : Ghosts S} → Request S text → ℕ → ℕ → Type 0
TakenAt r place p = (j : ℕ) (t : Test) → TestStands (run_of r).words place j t → passes (run_of r).subject t p ≡ true

abbrev pub AllTaken : {S : Type 0} {text : Ghosts S} → Request S text → ℕ → ℕ → ℕ → Type 0
AllTaken r place p q = (j : ℕ) (t : Test) → TestStands (run_of r).words place j t → AllPass (run_of r).subject t p q

-- the character at p does not pass the test at a place, or is not in the window
abbrev pub NotTakenAt : {S : Type 0} {text : Ghosts S} → Request S text → ℕ → ℕ → Type 0
NotTakenAt r place p =
    (j : ℕ) (t : Test) → TestStands (run_of r).words place j t → passes (run_of r).subject t p ≡ false

-- the run at a place lacks its least count from p on
pub record LacksLeast {S : Type 0} {text : Ghosts S} (r : Request S text) (place low p : ℕ) : Type 0 where
  pub short : (j : ℕ) (t : Test) → TestStands (run_of r).words (place + 4) j t
      → run_length (run_of r).subject t low p < low

-- its first end stands behind the least count; where one character more is taken, the run from one character later has
-- its other ends
pub record EndsFirst {S : Type 0} {text : Ghosts S} (r : Request S text) (place low p : ℕ) (end : StringCursor)
    (later : Option StringCursor) : Type 0 where
  pub position : end.position ≡ p + low
  pub stands : Standing r end
  pub taken : AllTaken r (place + 4) p (p + low)
  pub others : MatchOption later (NotTakenAt r (place + 4) (p + low))
      (λ x. (x.position ≡ p + 1) × Standing r x × AllTaken r (place + 4) p (p + low + 1))

-- the run at a place that begins later has the ends which are left behind one at p, where one character more passes
pub record BeginsLater {S : Type 0} {text : Ghosts S} (r : Request S text) (place low p : ℕ) (later : StringCursor) :
    Type 0 where
  pub position : later.position + low ≡ p + 1
  pub stands : Standing r later
  pub taken : TakenAt r (place + 4) p
