use Rattle.sre_finder.proofs.Terms.{◌+◌, refl, subst, arith, string_of, start_of, asked_of, NoneBetween}
use Rattle.sre_engine.proofs.LeadingStarts.{found_none_behind}
use Rattle.sre_finder.proofs.span_finder.SpanFinder.step.Goals as goal

pub returns-then-lacks_literal-clause-none : goal.returns-then-lacks_literal-clause-none
returns-then-lacks_literal-clause-none g c = λ _.
    let asked = c.args.req.now in
    let a = asked_of asked in
    let at = c.args.cursor.now in
    let here = (g.met.S.StrDrive.stands_at (string_of asked) at (start_of asked) c.requires.stands).0 in (
      refl,
      record {
        none = λ t whole.
            found_none_behind a t a.start (λ s from to. absurd (omega (arith, from, to)))
            (subst (λ p. NoneBetween a t p (a.end + 1)) here
            (c.lacks_literal.ensures.none c.if-lacks_literal.true t whole));
      },
    )
