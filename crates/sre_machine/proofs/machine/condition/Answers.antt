use Rattle.sre_machine.proofs.Terms.{sym, ◌∙◌, run_of, condition_present, condition_absent}
use Rattle.sre_machine.proofs.machine.condition.Goals as goal

pub returns-in-Some : goal.returns-in-Some
returns-in-Some g c =
    condition_present (run_of c.args.req.now) _ _ _ c.args.cursor c.args.board.now c.requires.opcode
    c.operand-number.ensures.word c.operand-skip.ensures.word _ (sym c.group.ensures ∙ c.in-Some.is)

pub returns-in-None : goal.returns-in-None
returns-in-None g c =
    condition_absent (run_of c.args.req.now) _ _ _ c.args.cursor c.args.board.now c.requires.opcode
    c.operand-number.ensures.word c.operand-skip.ensures.word (sym c.group.ensures ∙ c.in-None.is)
