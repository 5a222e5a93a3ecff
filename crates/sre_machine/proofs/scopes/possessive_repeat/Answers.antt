use Rattle.sre_machine.proofs.Terms.{run_of, possessive_step}
use Rattle.sre_machine.proofs.scopes.possessive_repeat.Goals as goal

pub returns : goal.returns
returns g c = possessive_step (run_of c.args.req.now) _ c.args.cursor _ _ c.requires.opcode c.in_ok-enter.ensures
