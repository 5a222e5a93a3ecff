use Rattle.sre_machine.proofs.Terms.{run_of}
use Rattle.sre_turns.proofs.semantics.StepsInRegions.{atomic_operand, atomic_step}
use Rattle.sre_machine.proofs.scopes.atomic_group.Goals as goal

pub operand-skip-requires : goal.operand-skip-requires
operand-skip-requires g c = atomic_operand (run_of c.args.req.now) _ c.args.cursor c.requires.opcode c.requires.stands

pub returns : goal.returns
returns g c =
    atomic_step (run_of c.args.req.now) _ _ c.args.cursor _ _ c.requires.opcode c.operand-skip.ensures.word
    c.in_ok-begin_region.ensures
