use Rattle.std.proofs.Common.{rules}
use Rattle.sre_engine.proofs.engine.state.State.search_within.Goals as goal

pub returns-clause-steps : goal.returns-clause-steps
returns-clause-steps g c = search rules

pub returns-clause-answer : goal.returns-clause-answer
returns-clause-answer g c = search rules
