use Rattle.sre_recipes.proofs.Terms.{refl, sym, ◌∙◌}
use Rattle.sre_recipes.proofs.Following.{takes_one, gives_falls}
use Rattle.sre_recipes.proofs.bounds.next_bounded.Goals as goal

pub returns-clause-gives : goal.returns-clause-gives
returns-clause-gives g c =
    let told = rw c.in-Some.is at c.in_ok-span.ensures.gives in
    let wanted = sym c.eq.ensures ∙ c.if-eq.false in
    (told.0, told.1, takes_one _ _ _ _ _ wanted told.2 c.one_less-bounds.ensures refl refl)

pub returns-clause-falls : goal.returns-clause-falls
returns-clause-falls g c = λ _. gives_falls _ _ (rw c.in-Some.is at c.in_ok-span.ensures.gives).0
