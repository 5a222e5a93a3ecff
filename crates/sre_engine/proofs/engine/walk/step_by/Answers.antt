use Rattle.std.proofs.Common.{rules}
use Rattle.sre_engine.proofs.engine.walk.step_by.Goals as goal

pub returns-clause-stepped : goal.returns-clause-stepped
returns-clause-stepped g c = search rules
