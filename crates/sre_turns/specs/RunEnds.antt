-- Repeats of one test without a greatest count: but for its own first end, the outcomes of one are those of the repeat
-- one character later.
-- Definitions for the machine's contracts; what sre_engine makes public does not rest on it.
use Rattle.std.specs.Prelude.{ℕ, ◌+◌, ◌≡◌, ◌<◌, ◌≤◌, ◌⊎◌, true, List}
use Rattle.sre_turns.specs.Terms.{Test, Subject, passes, unlimited, Word, Opcode, HasTest}
use Rattle.sre_chars.specs.declared.constants.SreOpcode.TheVariants as opcode

-- each character from p up to q passes
abbrev pub AllPass : Subject → Test → ℕ → ℕ → Type 0
AllPass s t p q = (c : ℕ) → p ≤ c → c < q → passes s t c ≡ true

-- a run without a greatest count is at i
pub record RunsOn (ws : List ℕ) (i : ℕ) : Type 0 where
  pub code :
      Opcode ws i opcode.REPEAT_ONE
      ⊎ (Opcode ws i opcode.MIN_REPEAT_ONE ⊎ Opcode ws i opcode.POSSESSIVE_REPEAT_ONE)
  pub greatest : Word ws (i + 3) unlimited
  pub test : HasTest ws (i + 4)
