use Rattle.std.proofs.Common.{rules}
use Rattle.sre_recipes.proofs.find.full_match.Goals as goal

pub returns-clause-answer : goal.returns-clause-answer
returns-clause-answer g c = search rules
