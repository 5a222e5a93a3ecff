use Rattle.sre_recipes.proofs.Terms.{arith}
use Rattle.sre_recipes.proofs.Adjoining.{gap_none, over_none}
use Rattle.sre_recipes.proofs.lexer.next_adjoining.Goals as goal

pub returns-in_default-clause-gives : goal.returns-in_default-clause-gives
returns-in_default-clause-gives g c = over_none _ (rw c.in_default.is at c.in_ok-span.ensures.gives)

pub returns-then-position-clause-gives : goal.returns-then-position-clause-gives
returns-then-position-clause-gives g c =
    let told = rw c.in-Some.is at c.in_ok-span.ensures.gives in
    gap_none _ _ told.0 (omega (arith, c.if-position.true, told.1.begins))
