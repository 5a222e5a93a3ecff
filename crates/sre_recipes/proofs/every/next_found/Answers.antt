use Rattle.sre_recipes.proofs.Terms.{ℕ, Ok, ap, ◌∙◌, string_of, code_of, last_asked}
use Rattle.sre_finder.specs.SpanIters.{request_of, shown_of}
use Rattle.sre_recipes.proofs.Passing.{is_behind, finds_behind, finds_shown, found_forward}
use Rattle.sre_recipes.proofs.every.next_found.Goals as goal

pub span_behind-requires : goal.span_behind-requires
span_behind-requires g c =
    let gives = rw c.in-Some-Ok.field-0-is at c.in-Some-Ok.ensures.steps in
    let same = c.string-text.ensures ∙ ap string_of c.req.ensures ∙ gives.request.string in
    assumption (is_behind _ _ _ _ c.args.last.now gives same c.requires)

pub returns-then-not-captures-clause-gives : goal.returns-then-not-captures-clause-gives
returns-then-not-captures-clause-gives g c =
    let gives = rw c.in-Some-Ok.field-0-is at c.in-Some-Ok.ensures.steps in
    let same = c.string-text.ensures ∙ ap string_of c.req.ensures ∙ gives.request.string in
    rw c.if-not-captures.true
    (finds_behind _ _ _ _ _ _ gives same c.span_behind.ensures.start c.span_behind.ensures.end)

pub span_of-requires-clause-forward : goal.span_of-requires-clause-forward
span_of-requires-clause-forward g c =
    let asked = request_of c.next.new.self in
    rw c.state.ensures
    (found_forward {E = ℕ} (last_asked c.next.new.self) (code_of asked) (Ok c.in_ok-show.field-0)
    (shown_of c.show.new.self) c.in_ok-show.ensures.answer c.if-branch.true)

pub returns-then-branch-clause-gives : goal.returns-then-branch-clause-gives
returns-then-branch-clause-gives g c =
    let gives = rw c.in-Some-Ok.field-0-is at c.in-Some-Ok.ensures.steps in
    let shows = c.in_ok-show.ensures in
    let same = c.string.ensures ∙ ap string_of (c.req-then-branch.ensures ∙ shows.req) ∙ gives.request.string in
    rw c.if-not-captures.false
    (finds_shown c.args.walk.now c.next.new.self c.show.new.self c.in-Some-Ok.found c.in_ok-show.field-0 gives shows.req
    shows.ended shows.answer c.if-branch.true _ _ (rw (same, c.state.ensures) at c.span_of.ensures))
