use Rattle.sre_machine.proofs.Terms.{ap, decision_of, Result, Ok, Err, IfOk, Option, Bool, StringCursor, found_of}
use Rattle.sre_machine.proofs.Terms.{IsErrAnd}
use Rattle.sre_machine.proofs.Following.{anew_stops, anew_settles}
use Rattle.sre_machine.proofs.runner.Runner.run_anew.Goals as goal

-- of what is given up nothing is found
never_found : {E : Type 0} (P : E → Type 0) (Q : Option StringCursor → Type 0) (r : Result Bool E)
    (end : StringCursor) → IsErrAnd r P → IfOk (found_of r end) Q
never_found P Q (Ok x) end h = absurd h
never_found P Q (Err e) end h = tt

pub run_once-requires-clause-remembers : goal.run_once-requires-clause-remembers
run_once-requires-clause-remembers g c = c.open.ensures.recalls (rw (← c.self.view_is) at c.requires.remembers)

pub returns-in_err-run_once-clause-costs : goal.returns-in_err-run_once-clause-costs
returns-in_err-run_once-clause-costs g c = record {
  spent = c.run_once.ensures.costs.spent;
  stops = λ limited.
      anew_stops c.args.req.now c.args.start c.open.new.self _ c.open.ensures.opened c.open.ensures.empty
      c.open.ensures.first c.open.ensures.ends _ (c.run_once.ensures.costs.stops limited);
  settles = λ _. never_found _ _ c.from_residual.result c.run_once.new.ended c.from_residual.ensures.1;
}

pub returns-in-Failed-clause-costs : goal.returns-in-Failed-clause-costs
returns-in-Failed-clause-costs g c = record {
  spent = c.in_ok-run_once.ensures.costs.spent;
  stops = λ limited.
      anew_stops c.args.req.now c.args.start c.open.new.self _ c.open.ensures.opened c.open.ensures.empty
      c.open.ensures.first c.open.ensures.ends _ (c.in_ok-run_once.ensures.costs.stops limited);
  settles = λ limited none.
      anew_settles c.args.req.now c.args.start c.open.new.self _ c.open.ensures.opened c.open.ensures.empty
      c.open.ensures.first c.open.ensures.ends c.run_once.new.self.memo _
      (c.in_ok-run_once.ensures.costs.settles limited (ap (λ e. decision_of e c.run_once.new.ended) c.in-Failed.is));
}

pub returns-in-Found-clause-costs : goal.returns-in-Found-clause-costs
returns-in-Found-clause-costs g c = record {
  spent = c.in_ok-run_once.ensures.costs.spent;
  stops = λ limited.
      anew_stops c.args.req.now c.args.start c.open.new.self _ c.open.ensures.opened c.open.ensures.empty
      c.open.ensures.first c.open.ensures.ends _ (c.in_ok-run_once.ensures.costs.stops limited);
  settles = λ _ none. absurd (cc none);
}
