use Rattle.std.proofs.Common.{rules}
use Rattle.sre_engine.proofs.engine.whole_walk.all_matches.Goals as goal

pub returns-clause-ok : goal.returns-clause-ok
returns-clause-ok g c = search rules
