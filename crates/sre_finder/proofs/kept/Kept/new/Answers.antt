use Rattle.std.proofs.Common.{rules}
use Rattle.sre_finder.proofs.kept.Kept.new.Goals as goal

pub returns-clause-encoding : goal.returns-clause-encoding
returns-clause-encoding c = search rules
