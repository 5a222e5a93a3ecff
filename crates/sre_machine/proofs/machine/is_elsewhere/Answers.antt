use Rattle.sre_machine.proofs.Terms.{◌≡◌, ◌+◌, false, refl, sym, ◌∙◌, subst, Word, run_of, at_operand, not-true, ℕ}
use Rattle.sre_machine.proofs.Terms.{Opcode, Run, Refuses, run_nothing, at_number, SreAtCode, holds_at, at_instruction}
use Rattle.sre_model.specs.Roles.{ToCheckPosition}
use Rattle.sre_turns.proofs.semantics.StepsAtItems.{at_known}
use Rattle.sre_chars.specs.declared.constants.SreOpcode.TheVariants as opcode
use Rattle.sre_machine.proofs.machine.is_elsewhere.Goals as goal

-- a position code that does not hold fails
at_refuses : (r : Run) (i p : ℕ) (a : SreAtCode) → Opcode r.words i opcode.AT → Word r.words (i + 1) (at_number a)
    → holds_at r.subject a p ≡ false → Refuses r i p
at_refuses r i p a w wa n fs m os k x =
    run_nothing (at_instruction opcode.AT ToCheckPosition refl w (record { code = a; there = wa; is = rw n refl })) x

pub operand-requires : goal.operand-requires
operand-requires g c = at_operand (run_of c.args.req.now) _ _ c.requires.opcode c.requires.stands

pub unreachable-requires : goal.unreachable-requires
unreachable-requires g c =
    at_known (run_of c.args.req.now) _ c.operand.result c.args.cursor c.requires.opcode c.requires.stands
    c.operand.ensures.word c.in_default.ensures.1

pub returns : goal.returns
returns g c = λ elsewhere.
    at_refuses (run_of c.args.req.now) _ _ c.in-Ok.code c.requires.opcode
    (subst (λ v. Word (run_of c.args.req.now).words (c.args.place + 1) v) (sym c.in-Ok.ensures) c.operand.ensures.word)
    (sym c.holds_at.ensures ∙ not-true c.holds_at.result elsewhere)
