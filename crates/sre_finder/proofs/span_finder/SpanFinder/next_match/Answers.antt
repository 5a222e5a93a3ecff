use Rattle.sre_finder.proofs.Terms.{◌≡◌, ◌&&◌, nat_eq, start_of, must_advance_of, StepsFrom, rules}
use Rattle.sre_finder.proofs.Spans.{shown_behind}
use Rattle.sre_finder.proofs.span_finder.SpanFinder.next_match.Goals as goal

pub returns-clause-shows : goal.returns-clause-shows
returns-clause-shows g c = λ _.
    let r = c.args.req.now in
    let u = c.step.new.req in
    let from = c.in-Some.step.start in
    let steps : StepsFrom {S = g.row.S.Denot} {text = g.S.StrDrive} r from u =
    rw c.in-Some.is at c.in_ok-step.ensures.some in
    let bars : c.bars-advances.result ≡ (must_advance_of r && nat_eq from.position (start_of r)) =
    rw (c.must_advance-must_advance.ensures, c.position.ensures, c.start-from.ensures.value)
    at c.bars-advances.ensures in
    shown_behind r from.position (start_of u) u c.bars-advances.result c.in_ok-_shown._shown c.show_at.new.state
    steps.goes_on steps.finds bars c.in_ok-_shown.ensures.answer c.in_ok-_shown.ensures.cursor

pub returns-then-step-clause-some : goal.returns-then-step-clause-some
returns-then-step-clause-some g c = search rules
