use Rattle.std.proofs.Common.{rules}
use Rattle.sre_c.proofs.sre_walk_units.Goals as goal

pub returns-clause-walks : goal.returns-clause-walks
returns-clause-walks c = search rules
