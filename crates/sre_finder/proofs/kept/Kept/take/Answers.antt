use Rattle.sre_finder.proofs.Terms.{◌∙◌, sym, subst, words_of, uni_of, Suits, rules}
use Rattle.sre_finder.proofs.kept.Kept.take.Goals.{then-eq, else-eq}
use Rattle.sre_finder.proofs.kept.Kept.take.Goals as goal

pub into_finder-requires : goal.into_finder-requires
into_finder-requires c =
    let words = words_of c.args.code in
    let uni = uni_of c.args.code in
    elim c.if-eq.branch [
      | then-eq w ↦ subst (Suits words uni) (sym (w.kept-is ∙ c.replace-before.ensures.value)) c.requires
      | else-eq w ↦ subst (Suits words uni) (sym w.kept-is) (w.new-kept.ensures.suits words uni)
    ]

pub returns-clause-suits : goal.returns-clause-suits
returns-clause-suits c = λ ws uni.
    subst (Suits ws uni) (sym c.replace-before.ensures.after) (c.new.ensures.suits ws uni)

pub returns-clause-encoding : goal.returns-clause-encoding
returns-clause-encoding c = search rules
