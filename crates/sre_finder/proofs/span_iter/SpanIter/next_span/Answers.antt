use Rattle.sre_finder.proofs.Terms.{◌≡◌, ◌&&◌, nat_eq, Some, ap₂, sym, subst, ◌∙◌, arith, ∥∥₁_elim, Whole, found, rules}
use Rattle.sre_finder.proofs.Terms.{words_of, hints_of, code_tree, string_of, start_of, code_of, must_advance_of}
use Rattle.sre_finder.proofs.Terms.{asked_of, match_with, StepsFrom, GoesOnBehind, FindsSpan}
use Rattle.sre_finder.proofs.Covered.{end_once}
use Rattle.sre_finder.proofs.Spans.{gives_first, found_behind, span_falls}
use Rattle.sre_finder.proofs.span_iter.SpanIter.next_span.Goals as goal

pub step-requires-clause-known : goal.step-requires-clause-known
step-requires-clause-known g c =
    let it = c.args.self.now in
    let string = string_of it.req in
    let once = end_once (g.S.StrDrive.stands string) (g.met.S.StrDrive.stands_once string) it.finder.end in
    ∥∥₁_elim it.known once (λ end. end)

pub step-requires-clause-stands : goal.step-requires-clause-stands
step-requires-clause-stands g c =
    let it = c.args.self.now in
    ∥∥₁_elim it.here (g.met.S.StrDrive.stands_once (string_of it.req) it.cursor (start_of it.req)) (λ here. here)

-- the state shows the match that comes, if the machine found it
pub invariant_of-self : goal.invariant_of-self
invariant_of-self g c =
    let r = c.args.self.now.req in
    let u = c.step.new.req in
    let from = c.in-Ok-Some.step.start in
    let steps : StepsFrom {S = g.row.S.Denot} {text = g.S.StrDrive} r from u =
    rw c.in-Ok-Some.field-0-is at c.in-Ok-Some.ensures.some in
    let bars : c.bars-self.result ≡ (must_advance_of r && nat_eq from.position (start_of r)) =
    rw (c.must_advance-must_advance.ensures, c.position-start.ensures, c.start-from.ensures.value)
    at c.bars-self.ensures in
    let shows = rw c.in-Ok-Some.field-0-is at c.in-Ok-Some.ensures.shows in
    record {
      own = c.in-Ok-Some.ensures.own;
      known = ∣ c.in-Ok-Some.ensures.known ∣₁;
      here = ∣ c.in-Ok-Some.ensures.here ∣₁;
      last = ∣ subst (λ x. g.S.StrDrive.stands x from from.position) (sym steps.goes_on.string) steps.begins ∣₁;
      inside = omega (arith, steps.goes_on.forward, u.in_window.0.0);
      first_sets = c.in-Ok-Some.ensures.sets;
      shown = λ yes t whole.
          let own = subst (λ d. Whole (words_of d) t) steps.goes_on.pattern_codes whole in
          found_behind r from.position (start_of u) u c.bars-self.result steps.goes_on steps.finds bars t own
          ∙ (shows yes).is t own;
      ends = λ yes. ∣ (shows yes).stands ∣₁;
    }

pub returns-in-Ok-Some-clause-gives : goal.returns-in-Ok-Some-clause-gives
returns-in-Ok-Some-clause-gives g c =
    let it = c.args.self.now in
    let r = it.req in
    let u = c.step.new.req in
    let from = c.in-Ok-Some.step.start in
    let start = c.position-start.result in
    let end = c.start-end.result in
    let steps : StepsFrom {S = g.row.S.Denot} {text = g.S.StrDrive} r from u =
    rw c.in-Ok-Some.field-0-is at c.in-Ok-Some.ensures.some in
    let goes : GoesOnBehind {S = g.row.S.Denot} {text = g.S.StrDrive} r start end u =
    rw (c.position-start.ensures, c.start-end.ensures.value) steps.goes_on in
    let finds : FindsSpan {S = g.row.S.Denot} {text = g.S.StrDrive} r start end =
    rw (c.position-start.ensures, c.start-end.ensures.value) steps.finds in
    let bars : c.bars-self.result ≡ (must_advance_of r && nat_eq start (start_of r)) =
    c.bars-self.ensures
    ∙ ap₂ (λ x y. x && nat_eq start y) c.must_advance-must_advance.ensures c.start-from.ensures.value in
    record {
      before = c.if-self.false;
      after = c.if-self.false;
      first = λ t whole.
          let gives = gives_first r start end u c.bars-self.result goes finds bars t whole in (
            gives.0,
            rw c.if-self.false gives.1,
            subst (λ p. found (record (asked_of u) { start = p; must_advance = c.bars-self.result }) t
                ≡ Some (match_with start end gives.0)) c.position-start.ensures gives.2,
          );
      request = goes;
      encoding = c.in-Ok-Some.ensures.encoding;
    }

pub returns-in-Ok-Some-clause-falls : goal.returns-in-Ok-Some-clause-falls
returns-in-Ok-Some-clause-falls g c =
    let it = c.args.self.now in
    let r = it.req in
    let u = c.step.new.req in
    let from = c.in-Ok-Some.step.start in
    let start = c.position-start.result in
    let end = c.start-end.result in
    let steps : StepsFrom {S = g.row.S.Denot} {text = g.S.StrDrive} r from u =
    rw c.in-Ok-Some.field-0-is at c.in-Ok-Some.ensures.some in
    let goes : GoesOnBehind {S = g.row.S.Denot} {text = g.S.StrDrive} r start end u =
    rw (c.position-start.ensures, c.start-end.ensures.value) steps.goes_on in
    let finds : FindsSpan {S = g.row.S.Denot} {text = g.S.StrDrive} r start end =
    rw (c.position-start.ensures, c.start-end.ensures.value) steps.finds in
    let code = code_of r in
    let tree = code_tree (words_of code) (hints_of code) code.checked in
    let less = span_falls r start end u goes finds tree in
    rw c.if-self.false (omega (arith, less))

pub returns-in-Ok-None-clause-gives : goal.returns-in-Ok-None-clause-gives
returns-in-Ok-None-clause-gives g c = search rules
