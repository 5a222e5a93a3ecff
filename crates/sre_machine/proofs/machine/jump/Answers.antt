use Rattle.sre_machine.proofs.Terms.{run_of, jump_operand, jump_step}
use Rattle.sre_machine.proofs.machine.jump.Goals as goal

pub operand-skip-requires : goal.operand-skip-requires
operand-skip-requires g c = jump_operand (run_of c.args.req.now) _ _ c.requires.opcode c.requires.stands

pub returns : goal.returns
returns g c = λ b. jump_step (run_of c.args.req.now) _ _ c.args.cursor b c.requires.opcode c.operand-skip.ensures.word
