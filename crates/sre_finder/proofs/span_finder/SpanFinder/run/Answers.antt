use Rattle.sre_finder.proofs.Terms.{◌≡◌, sym, subst, ◌∙◌, arith, found, string_of, start_of, asked_of, answer_of}
use Rattle.sre_finder.proofs.Spans.{steps_span, step_answers}
use Rattle.sre_finder.proofs.span_finder.SpanFinder.run.Goals as goal

pub returns-clause-some : goal.returns-clause-some
returns-clause-some g c =
    let asked = c.args.req.now in
    let ok = c.in_ok-is_found.ensures.stepped in
    let yes = c.if-not-is_found.false in
    let goes = ok.yes yes in
    let start = c.skip.new.cursor in
    let there = g.met.S.StrDrive.stands_at c.string.result start _ c.skip.ensures in
    let here = g.met.S.StrDrive.stands_at (string_of asked) c.args.cursor.now (start_of asked) c.requires.stands in
    let at : start.position ≡ c.step_admitted.new.state.start =
    omega (arith, there.0, here.0, c.start.ensures, c.position-2.ensures, goes.from) in
    let steps =
    steps_span asked c.in_ok-is_found.is_found c.step_admitted.new.state c.step_admitted.new.req ok.ok yes goes
    start.position at in
    record {
      begins =
          subst (λ x. g.S.StrDrive.stands x start start.position) (c.string.ensures ∙ goes.string)
          (subst (g.S.StrDrive.stands c.string.result start) (sym there.0) c.skip.ensures);
      goes_on = steps.0;
      finds = steps.1;
    }

pub returns-clause-shows : goal.returns-clause-shows
returns-clause-shows g c = λ _.
    let asked = c.args.req.now in
    let ok = c.in_ok-is_found.ensures.stepped in
    let yes = c.if-not-is_found.false in
    let goes = ok.yes yes in
    let shown = c.step_admitted.new.state in
    record {
      is = λ t whole.
          subst (λ b. found (asked_of asked) t ≡ answer_of b shown) yes
          (sym
          (step_answers asked c.in_ok-is_found.is_found shown c.step_admitted.new.req ok.ok t whole));
      stands = subst (λ x. g.S.StrDrive.stands x shown.cursor shown.cursor.position) (sym goes.string) goes.stands;
    }
