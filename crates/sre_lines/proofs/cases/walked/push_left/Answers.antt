-- One more span is written of the matches that were left.
use Rattle.sre_lines.proofs.Terms.{rules, ◌∙◌, sym, subst, Whole, words_of}
use Rattle.sre_finder.specs.SpanIters.{GivesSpan}
use Rattle.sre_lines.proofs.Parts.{one_written}
use Rattle.sre_lines.proofs.cases.walked.push_left.Goals as goal

pub matches-preserved : goal.matches-preserved
matches-preserved g c =
    let gives : GivesSpan c.matches.matches c.in-Ok.span c.next.new.self =
    rw c.in-Ok.is at c.in-Some.ensures.steps in
    let same = c.matches.invariant.0 in (
      gives.request.pattern_codes ∙ same,
      one_written _ _ _ _ _ c.matches.first c.in-Ok.span.start c.in-Ok.span.end _ _ c.matches.invariant.1
          (λ t is. let f = gives.first t (subst (λ code. Whole (words_of code) t) (sym same) is) in (f.0, f.1))
          (search rules),
    )
