use Rattle.sre_engine.proofs.Terms.{Ok, refl, ap, arith, rules, asked_of}
use Rattle.sre_engine.proofs.Spending.{passed_on}
use Rattle.sre_engine.proofs.Hinting.{past_none}
use Rattle.sre_engine.proofs.LeadingStarts.{none_joined, found_none_behind}
use Rattle.sre_engine.proofs.Looking.{begins, ready, answered_no, charged, charged_then, answered_given_up, failed}
use Rattle.sre_engine.proofs.Looking.{answered_yes, answered_over, searching_on}
use Rattle.sre_engine.proofs.engine.state.State.search_along.Goals as goal

pub candidate-init : goal.candidate-init
candidate-init g c = record {
  looks = c.requires.looks;
  suits = c.requires.suits;
  searching =
      begins c.args.req.now c.begin.new.self c.args.allowed.now _ c.begin.ensures.ready c.begin.ensures.begins
      c.begin.ensures.started c.begin.ensures.restarted c.requires.front;
  single = λ _. c.begin.ensures.started;
}

pub returns-then-is_past-clause-answers : goal.returns-then-is_past-clause-answers
returns-then-is_past-clause-answers g c =
    let r = c.args.req.now in
    let inv = c.candidate.invariant.searching in
    let some = c.in-Some.ensures.some in
    answered_no r _ _
    (λ t whole. past_none _ _ _ t _ c.last_start-last.ensures whole (c.is_past.ensures.past c.if-is_past.true)
    (none_joined (asked_of r) t _ _ _ (inv.none t whole) (some.none.none t whole)))
    (ap (λ b. b.marks) inv.fresh) inv.ran (omega (arith, inv.inside)) c.in-Some.ensures.few

pub returns-clause-answers : goal.returns-clause-answers
returns-clause-answers g c =
    let r = c.args.req.now in
    let inv = c.candidate.invariant.searching in
    answered_no r _ _
    (λ t whole. found_none_behind (asked_of r) t _ (inv.none t whole)
    ((c.next.ensures.none c.in_default.is).none t whole))
    (ap (λ b. b.marks) inv.fresh) inv.ran (omega (arith, inv.inside)) c.next.ensures.few

pub returns-then-is_past-clause-charged : goal.returns-then-is_past-clause-charged
returns-then-is_past-clause-charged g c = charged_then c.args.req.now _ _ _ _ c.candidate.invariant.searching _

pub returns-clause-charged : goal.returns-clause-charged
returns-clause-charged g c = charged_then c.args.req.now _ _ _ _ c.candidate.invariant.searching _

pub attempt-requires-clause-ready : goal.attempt-requires-clause-ready
attempt-requires-clause-ready g c = ready c.args.req.now _ _ _ _ c.candidate.invariant.searching

pub returns-in_err-end-clause-answers : goal.returns-in_err-end-clause-answers
returns-in_err-end-clause-answers g c =
    answered_given_up c.args.req.now _ _ _ _ _ _ _ _ _ _ c.candidate.invariant.searching c.in-Some.ensures.some
    c.in-Some.ensures.few c.last_start-last.ensures (c.is_past.ensures.fits c.if-is_past.false) c.attempt.ensures.began
    c.in_err-end.ensures.costs c.in_err-end.field-0.0 _ c.from_residual.ensures.1 _
    (ap (λ b. b.marks) c.in_err-end.ensures.clears) refl refl

pub returns-in_err-end-clause-charged : goal.returns-in_err-end-clause-charged
returns-in_err-end-clause-charged g c =
    charged c.args.req.now _ _ _ _ _ _ _ _ _ _ c.candidate.invariant.searching c.in-Some.ensures.some
    c.in-Some.ensures.few c.last_start-last.ensures (c.is_past.ensures.fits c.if-is_past.false) c.attempt.ensures.began
    c.in_err-end.ensures.costs _
    (passed_on _ c.in_err-end.field-0.0 _ c.from_residual.ensures.1 c.in_err-end.ensures.halted)

pub returns-in-Some-2-clause-answers : goal.returns-in-Some-2-clause-answers
returns-in-Some-2-clause-answers g c =
    answered_yes c.args.req.now _ _ _ _ _ _ _ _ _ _ c.candidate.invariant.searching c.in-Some.ensures.some
    c.in-Some.ensures.few c.last_start-last.ensures (c.is_past.ensures.fits c.if-is_past.false) c.attempt.ensures.began
    c.in_ok-end.ensures.costs c.in_ok-end.field-0 c.in_ok-end.ensures.decides c.in-Some-2.end c.in-Some-2.is

pub returns-in-Some-2-clause-charged : goal.returns-in-Some-2-clause-charged
returns-in-Some-2-clause-charged g c =
    charged c.args.req.now _ _ _ _ _ _ _ _ _ _ c.candidate.invariant.searching c.in-Some.ensures.some
    c.in-Some.ensures.few c.last_start-last.ensures (c.is_past.ensures.fits c.if-is_past.false) c.attempt.ensures.began
    c.in_ok-end.ensures.costs (Ok _) tt

pub pass-requires-clause-failed : goal.pass-requires-clause-failed
pass-requires-clause-failed g c =
    failed c.args.req.now _ _ _ _ _ _ _ _ _ _ c.candidate.invariant.searching c.in-Some.ensures.some
    c.in-Some.ensures.few c.last_start-last.ensures (c.is_past.ensures.fits c.if-is_past.false) c.attempt.ensures.began
    c.in_ok-end.ensures.costs c.in_ok-end.field-0 c.in_ok-end.ensures.decides c.in_default-2.is

pub returns-then-not-pass-clause-answers : goal.returns-then-not-pass-clause-answers
returns-then-not-pass-clause-answers g c =
    let clears = rw c.in_default-2.is at c.in_ok-end.ensures.clears in
    answered_over c.args.req.now _ _ _ _ _ _ _ _ _ _ c.candidate.invariant.searching c.in-Some.ensures.some
    c.in-Some.ensures.few c.last_start-last.ensures (c.is_past.ensures.fits c.if-is_past.false) c.attempt.ensures.began
    c.in_ok-end.ensures.costs (c.pass.ensures.none (search rules)) _ (ap (λ b. b.marks) clears) refl refl

pub returns-then-not-pass-clause-charged : goal.returns-then-not-pass-clause-charged
returns-then-not-pass-clause-charged g c =
    charged c.args.req.now _ _ _ _ _ _ _ _ _ _ c.candidate.invariant.searching c.in-Some.ensures.some
    c.in-Some.ensures.few c.last_start-last.ensures (c.is_past.ensures.fits c.if-is_past.false) c.attempt.ensures.began
    c.in_ok-end.ensures.costs (Ok _) tt

pub candidate-preserved : goal.candidate-preserved
candidate-preserved g c =
    let clears = rw c.in_default-2.is at c.in_ok-end.ensures.clears in
    let yes = c.if-not-pass.false in
    record {
      looks = c.pass.ensures.looks yes;
      suits = search rules;
      searching =
          searching_on c.args.req.now _ _ _ _ _ _ _ _ _ _ c.candidate.invariant.searching c.in-Some.ensures.some
          c.in-Some.ensures.few c.last_start-last.ensures (c.is_past.ensures.fits c.if-is_past.false)
          c.attempt.ensures.began c.in_ok-end.ensures.costs _ (c.pass.ensures.passed yes) (c.pass.ensures.further yes).0
          (c.pass.ensures.further yes).1 clears c.attempt.ensures.remembers (ap Ok c.in_default-2.is);
      single = λ e. absurd (search rules);
    }
