use Rattle.std.proofs.Common.{rules}
use Rattle.sre_engine.proofs.engine.search_iter.SearchIter.next_within.Goals as goal

pub returns-clause-steps : goal.returns-clause-steps
returns-clause-steps g c = search rules

pub returns-clause-gives : goal.returns-clause-gives
returns-clause-gives g c = search rules
