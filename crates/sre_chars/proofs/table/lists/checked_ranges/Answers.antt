use Rattle.std.proofs.Common.{rules}
use Rattle.sre_chars.proofs.table.lists.checked_ranges.Goals as goal

pub returns-clause-ranges : goal.returns-clause-ranges
returns-clause-ranges g c = search rules
