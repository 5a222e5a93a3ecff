use Rattle.std.proofs.Common.{rules}
use Rattle.sre_code.proofs.owned.copied.Goals as goal

pub returns-in-Ok-clause-items : goal.returns-in-Ok-clause-items
returns-in-Ok-clause-items c = search rules
