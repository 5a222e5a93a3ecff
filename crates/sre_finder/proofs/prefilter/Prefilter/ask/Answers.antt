use Rattle.sre_finder.proofs.Terms.{refl, ap, subst, arith, meaning, items_whole, code_of, asked_of, NoneLeft, NoneUpTo}
use Rattle.sre_finder.proofs.Terms.{SeenAs, Covering, Filters, NoneLeftOfAny, Tells}
use Rattle.sre_finder.proofs.Covered.{filters_same, no_start_left, no_start_below, none_left_of_any}
use Rattle.sre_finder.proofs.prefilter.Prefilter.ask.Goals as goal

pub returns-then-is_over-clause-none : goal.returns-then-is_over-clause-none
returns-then-is_over-clause-none g c = λ t whole.
    let asked = c.args.req.now in
    let a = asked_of asked in
    let p = c.end_in-end.new.self in
    let hay = c.in-Some.hay.now in
    let place = g.S.Haystack.place c.string-text.result in
    let own = filters_same (code_of asked) c.know.new.self p c.end_in-end.ensures.same
    (subst (λ d. Filters d c.know.new.self) c.pattern_codes.ensures c.know.ensures.own) in
    let seen = subst (λ n. SeenAs p.encoding a.text place n hay) c.end_in-end.ensures.end
    (subst (λ l. SeenAs p.encoding l place c.end_in-end.result.position hay)
    (ap g.S.StrDrive.text c.string-text.ensures) c.in-Some.ensures) in
    none_left_of_any p.encoding (code_of asked) p.whole own.1 a refl t (items_whole asked.pattern_codes t whole) place
    hay seen c.args.from.position
    (subst (λ n. NoneLeftOfAny hay p.whole n) c.place_of-start.ensures (c.is_over.ensures.over c.if-is_over.true))

pub returns-in-Nothing-clause-none : goal.returns-in-Nothing-clause-none
returns-in-Nothing-clause-none g c = λ t whole.
    let asked = c.args.req.now in
    let a = asked_of asked in
    let p = c.end_in-end.new.self in
    let hay = c.in-Some.hay.now in
    let place = g.S.Haystack.place c.string-text.result in
    let pattern = meaning c.in-Some-seeker.seeker in
    let own = filters_same (code_of asked) c.know.new.self p c.end_in-end.ensures.same
    (subst (λ d. Filters d c.know.new.self) c.pattern_codes.ensures c.know.ensures.own) in
    let covering : Covering p.encoding (code_of asked) pattern = rw c.in-Some-seeker.is at own.0 in
    let seen = subst (λ n. SeenAs p.encoding a.text place n hay) c.end_in-end.ensures.end
    (subst (λ l. SeenAs p.encoding l place c.end_in-end.result.position hay)
    (ap g.S.StrDrive.text c.string-text.ensures) c.in-Some.ensures) in
    let told = subst (λ n. Tells hay pattern n c.next_possible-told.result) c.place_of-start.ensures
    c.next_possible-told.ensures.told in
    let none : NoneLeft hay pattern (place c.args.from.position) = rw c.in-Nothing.is at told in
    no_start_left p.encoding a t pattern place hay (covering.covers t (items_whole asked.pattern_codes t whole)) seen
    c.args.from.position none

pub returns-in-From-clause-none : goal.returns-in-From-clause-none
returns-in-From-clause-none g c = λ t whole.
    let asked = c.args.req.now in
    let a = asked_of asked in
    let p = c.end_in-end.new.self in
    let hay = c.in-Some.hay.now in
    let place = g.S.Haystack.place c.string-text.result in
    let pattern = meaning c.in-Some-seeker.seeker in
    let own = filters_same (code_of asked) c.know.new.self p c.end_in-end.ensures.same
    (subst (λ d. Filters d c.know.new.self) c.pattern_codes.ensures c.know.ensures.own) in
    let covering : Covering p.encoding (code_of asked) pattern = rw c.in-Some-seeker.is at own.0 in
    let seen = subst (λ n. SeenAs p.encoding a.text place n hay) c.end_in-end.ensures.end
    (subst (λ l. SeenAs p.encoding l place c.end_in-end.result.position hay)
    (ap g.S.StrDrive.text c.string-text.ensures) c.in-Some.ensures) in
    let told = subst (λ n. Tells hay pattern n c.next_possible-told.result) c.place_of-start.ensures
    c.next_possible-told.ensures.told in
    let none : NoneUpTo hay pattern (place c.args.from.position) c.in-From.offset = rw c.in-From.is at told in
    let next = c.cursor_up_to.ensures in
    no_start_below p.encoding a t pattern place hay (covering.covers t (items_whole asked.pattern_codes t whole)) seen
    c.args.from.position c.cursor_up_to.result.position c.in-From.offset none
    (omega (arith, next.inside, c.end_in-end.ensures.end)) next.passed
