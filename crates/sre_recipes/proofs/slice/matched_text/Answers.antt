use Rattle.std.proofs.Common.{rules}
use Rattle.sre_recipes.proofs.slice.matched_text.Goals as goal

pub returns : goal.returns
returns g c = search rules
