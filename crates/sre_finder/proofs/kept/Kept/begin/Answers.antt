use Rattle.sre_finder.proofs.Terms.{refl, sym, subst, Suits, rules}
use Rattle.sre_finder.proofs.Covered.{suits_same}
use Rattle.sre_finder.proofs.kept.Kept.begin.Goals.{then-ne, else-ne}
use Rattle.sre_finder.proofs.kept.Kept.begin.Goals as goal

pub returns-clause-suits : goal.returns-clause-suits
returns-clause-suits c = λ ws uni suits.
    let before : Suits ws uni c.if-ne.self = elim c.if-ne.branch [
      | then-ne w ↦ subst (Suits ws uni) (sym w.self-is) (w.restart.ensures.suits ws uni)
      | else-ne w ↦ subst (Suits ws uni) (sym w.self-is) suits
    ] in
    suits_same ws uni c.if-ne.self _ c.begin.ensures.same refl refl refl before

pub returns-clause-end : goal.returns-clause-end
returns-clause-end c = search rules
