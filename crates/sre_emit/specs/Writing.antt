-- What a writer does: it writes words from the last to the first, and a failure stays.
-- Definitions for the writer's contracts; the public clauses rest on the grammar.
use Rattle.std.specs.Prelude.{ℕ, ◌+◌, ◌≡◌, ◌≤◌, List, [], ◌∷◌, ◌++◌, length, reverse, Option, Some, None}
use Rattle.sre_growth.specs.Refusal.{Refused}
use Rattle.sre_chars.specs.Numbers.{opcode_number}
use Rattle.sre_model.specs.Standing.{AreWords}
use Rattle.sre_emit.specs.Errors.{EmitError, Memory, TooLong}
use Rattle.sre_chars.specs.declared.constants.SreOpcode.TheVariants as opcode

-- what a writer holds: the words so far, the last one first, and why no more are written
pub record Held : Type 0 where
  pub words : List ℕ
  pub failure : Option EmitError

-- why some words are not written: memory was refused, or one of them is none
abbrev pub Stops : Type 0 → List ℕ → EmitError → Type 0
Stops M xs Memory = Refused M
Stops M xs TooLong = AreWords xs → ⊥
Stops M xs e = ⊥

-- from one state of a writer to the next the words xs were written, the last of them first, or the writer failed
pub record Wrote (M : Type 0) (a b : Held) (xs : List ℕ) : Type 0 where
  pub kept : (e : EmitError) → a.failure ≡ Some e → b.failure ≡ Some e
  pub done : a.failure ≡ None → b.failure ≡ None → (b.words ≡ a.words ++ reverse xs) × AreWords xs
  pub stops : a.failure ≡ None → (e : EmitError) → b.failure ≡ Some e → Stops M xs e
  pub grows : length a.words ≤ length b.words

-- an opcode, a skip, operands, a body and what ends it; the skip leads over extra words more than the body's
abbrev pub closed : ℕ → ℕ → List ℕ → List ℕ → ℕ → List ℕ
closed code extra operands body end = code ∷ (length body + extra) ∷ (operands ++ (body ++ end ∷ []))

-- a length word, a part, and a JUMP over as many words as are behind it
abbrev pub guarded : ℕ → List ℕ → ℕ → List ℕ
guarded extra part rest = (length part + extra) ∷ (part ++ opcode_number opcode.JUMP ∷ (rest + 1) ∷ [])
