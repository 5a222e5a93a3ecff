use Rattle.sre_engine.proofs.Looking.{passed_to}
use Rattle.sre_engine.proofs.engine.candidates.doubles.DoublesCandidates.pass.Goals as goal

pub returns-clause-passed : goal.returns-clause-passed
returns-clause-passed g c = λ e.
    rw e at (passed_to c.args.req.now _ _ _ c.requires.is_at.1 c.requires.failed c.requires.inside c.pass_start.ensures)

pub returns-clause-none : goal.returns-clause-none
returns-clause-none g c = λ e.
    rw e at (passed_to c.args.req.now _ _ _ c.requires.is_at.1 c.requires.failed c.requires.inside c.pass_start.ensures)
