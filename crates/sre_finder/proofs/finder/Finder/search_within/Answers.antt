use Rattle.std.proofs.Common.{rules}
use Rattle.sre_finder.proofs.finder.Finder.search_within.Goals as goal

pub returns-clause-steps : goal.returns-clause-steps
returns-clause-steps g c = search rules
