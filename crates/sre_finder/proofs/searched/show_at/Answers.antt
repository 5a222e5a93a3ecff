use Rattle.sre_finder.proofs.Terms.{◌≡◌, ap, ap₂, sym, subst, ◌∙◌, rules, Whole, Asked, found, words_of, string_of}
use Rattle.sre_finder.proofs.Terms.{start_of, code_of, asked_of}
use Rattle.sre_finder.proofs.Spans.{step_answers}
use Rattle.sre_finder.proofs.searched.show_at.Goals as goal

pub step_admitted-requires-clause-stands : goal.step_admitted-requires-clause-stands
step_admitted-requires-clause-stands g c =
    let r = c.args.req.now in
    let at = c.args.at in
    let own : c.in-Ok.req ≡ r = search rules in
    let last = c.set_start.ensures in
    let string = last.string ∙ c.set_must_advance.ensures.string ∙ ap string_of own in
    let start = ap (λ a. a.start) last.asked ∙ c.position.ensures in
    subst (λ x. g.S.StrDrive.stands x at (start_of c.set_start.new.self)) (sym string)
    (subst (g.S.StrDrive.stands (string_of r) at) (sym start) c.requires.stands)

pub returns-clause-answer : goal.returns-clause-answer
returns-clause-answer g c = λ t whole.
    let r = c.args.req.now in
    let u = c.set_start.new.self in
    let own : c.in-Ok.req ≡ r = search rules in
    let last = c.set_start.ensures in
    let first = c.set_must_advance.ensures in
    let asked : asked_of u
    ≡ record (asked_of r) { start = c.args.at.position; must_advance = c.args.must_advance } =
    last.asked
    ∙ ap₂ (λ (a : Asked) p. record a { start = p }) (first.asked
    ∙ ap (λ q. record (asked_of q) { must_advance = c.args.must_advance }) own) c.position.ensures in
    let code = last.pattern_codes ∙ first.pattern_codes ∙ ap code_of own in
    step_answers u c.in_ok-shown.shown c.step_admitted.new.state c.step_admitted.new.req
    c.in_ok-shown.ensures.stepped.ok t (subst (λ d. Whole (words_of d) t) (sym code) whole)
    ∙ ap (λ a. found a t) asked

pub returns-clause-cursor : goal.returns-clause-cursor
returns-clause-cursor g c = λ yes.
    let own : c.in-Ok.req ≡ c.args.req.now = search rules in
    let string = c.set_start.ensures.string ∙ c.set_must_advance.ensures.string ∙ ap string_of own in
    let end = c.step_admitted.new.state.cursor in
    subst (λ x. g.S.StrDrive.stands x end end.position) string
    (c.in_ok-shown.ensures.stepped.yes yes).stands
