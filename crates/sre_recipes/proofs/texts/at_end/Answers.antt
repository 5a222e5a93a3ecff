use Rattle.sre_recipes.proofs.Terms.{◌≡◌, ◌∙◌, sym, arith, length, eqb-true, eq-eqb, offset_of}
use Rattle.sre_recipes.proofs.Cuts.{none_after, some_before_end}
use Rattle.sre_recipes.proofs.texts.at_end.Goals as goal

pub returns-clause-end : goal.returns-clause-end
returns-clause-end c = λ same.
    let at : offset_of c.args.text.now c.args.cursor.now.position ≡ length c.args.text.now =
    sym (c.offset.ensures ∙ c.requires.1) ∙ eqb-true _ _ same in
    omega (arith, none_after _ _ c.utf8.text at, c.requires.2)

pub returns-clause-before : goal.returns-clause-before
returns-clause-before c = λ apart.
    some_before_end _ _ c.utf8.text c.requires.2
    (λ at. let same = eq-eqb _ _ (c.offset.ensures ∙ c.requires.1 ∙ at) in absurd (cc (same, apart)))
