use Rattle.std.proofs.Common.{rules}
use Rattle.sre_recipes.proofs.groups.match_captures.Goals as goal

pub returns-clause-ok : goal.returns-clause-ok
returns-clause-ok g c = search rules

pub returns-clause-answer : goal.returns-clause-answer
returns-clause-answer g c = search rules
