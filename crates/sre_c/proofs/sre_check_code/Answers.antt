use Rattle.std.proofs.Common.{rules}
use Rattle.sre_c.proofs.sre_check_code.Goals as goal

pub returns-clause-checked : goal.returns-clause-checked
returns-clause-checked c = search rules
