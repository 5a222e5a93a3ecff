use Rattle.std.proofs.Common.{rules}
use Rattle.sre_recipes.proofs.pattern.Pattern.new.Goals as goal

pub invariant_of-result : goal.invariant_of-result
invariant_of-result c = c.new-2.ensures.suits _ _

pub returns-clause-words : goal.returns-clause-words
returns-clause-words c = search rules
