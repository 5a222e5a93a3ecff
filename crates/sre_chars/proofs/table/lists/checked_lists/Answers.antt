use Rattle.std.proofs.Common.{rules}
use Rattle.sre_chars.proofs.table.lists.checked_lists.Goals as goal

pub returns-clause-lists : goal.returns-clause-lists
returns-clause-lists g c = search rules
