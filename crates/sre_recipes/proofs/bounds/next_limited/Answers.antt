use Rattle.std.proofs.Common.{rules}
use Rattle.sre_recipes.proofs.bounds.next_limited.Goals as goal

pub returns-in-Some-true-clause-gives : goal.returns-in-Some-true-clause-gives
returns-in-Some-true-clause-gives g c = search rules

pub returns-in-Some-false-clause-gives : goal.returns-in-Some-false-clause-gives
returns-in-Some-false-clause-gives g c = search rules

pub returns-in-None-clause-gives : goal.returns-in-None-clause-gives
returns-in-None-clause-gives g c = search rules
