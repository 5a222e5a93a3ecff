use Rattle.std.proofs.Common.{rules}
use Rattle.sre_finder.proofs.kept.Kept.take_memory.Goals as goal

pub returns-clause-suits : goal.returns-clause-suits
returns-clause-suits c = search rules
