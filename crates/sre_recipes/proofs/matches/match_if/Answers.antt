use Rattle.std.proofs.Common.{rules}
use Rattle.sre_recipes.proofs.matches.match_if.Goals as goal

pub returns-then-found : goal.returns-then-found
returns-then-found g c = search rules
