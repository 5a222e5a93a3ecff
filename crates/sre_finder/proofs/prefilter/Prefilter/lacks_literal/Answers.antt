use Rattle.sre_finder.proofs.Terms.{refl, ap, subst, items_whole, code_of, asked_of, SeenAs, NoneLeftOfAny}
use Rattle.sre_finder.proofs.Covered.{filters_same, none_left_of_any}
use Rattle.sre_finder.proofs.prefilter.Prefilter.lacks_literal.Goals as goal

pub returns-clause-none : goal.returns-clause-none
returns-clause-none g c = λ lacks t whole.
    let asked = c.args.req.now in
    let a = asked_of asked in
    let p = c.end_in-end.new.self in
    let hay = c.in-Some.hay.now in
    let place = g.S.Haystack.place c.string-text.result in
    let own = filters_same (code_of asked) c.args.self.now p c.end_in-end.ensures.same c.requires.own in
    let seen = subst (λ n. SeenAs p.encoding a.text place n hay) c.end_in-end.ensures.end
    (subst (λ l. SeenAs p.encoding l place c.end_in-end.result.position hay)
    (ap g.S.StrDrive.text c.string-text.ensures) c.in-Some.ensures) in
    none_left_of_any p.encoding (code_of asked) p.seeker own.0 a refl t (items_whole asked.pattern_codes t whole) place
    hay seen c.args.from.position
    (subst (λ n. NoneLeftOfAny hay p.seeker n) c.place_of.ensures (c.is_over.ensures.over lacks))
