use Rattle.sre_machine.proofs.Terms.{◌+◌, sym, ◌∙◌, subst, Word, run_of, at_operand, at_step, at_refused}
use Rattle.sre_machine.proofs.machine.position_code.Goals as goal

pub operand-requires : goal.operand-requires
operand-requires g c = at_operand (run_of c.args.req.now) _ _ c.requires.opcode c.requires.stands

pub returns-then-holds_at : goal.returns-then-holds_at
returns-then-holds_at g c = λ b.
    at_step (run_of c.args.req.now) _ c.in-Ok.code c.args.cursor b c.requires.opcode
    (subst (λ v. Word (run_of c.args.req.now).words (c.args.place + 1) v) (sym c.in-Ok.ensures) c.operand.ensures.word)
    (sym c.holds_at.ensures ∙ c.if-holds_at.true)

pub returns-else-holds_at : goal.returns-else-holds_at
returns-else-holds_at g c = λ b.
    at_refused (run_of c.args.req.now) _ c.in-Ok.code c.args.cursor b c.requires.opcode
    (subst (λ v. Word (run_of c.args.req.now).words (c.args.place + 1) v) (sym c.in-Ok.ensures) c.operand.ensures.word)
    (sym c.holds_at.ensures ∙ c.if-holds_at.false)
