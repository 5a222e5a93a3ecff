use Rattle.sre_machine.proofs.Terms.{◌≡◌, ◌+◌, ◌-◌, ◌∙◌, arith, ap, left_of, decision_of, found_of, RunnerValue}
use Rattle.sre_machine.proofs.Following.{again_stops, again_settles, if_ok}
use Rattle.sre_machine.proofs.runner.Runner.run_from.Goals as goal

pub returns-in-Opened-clause-costs : goal.returns-in-Opened-clause-costs
returns-in-Opened-clause-costs g c =
    let first = c.in_ok-run_once.ensures in
    let is = ap (λ e. decision_of e c.run_once.new.ended) c.in-Opened.is in
    let opened = first.decides.opened is in
    let anew = c.run_anew.ensures in
    let once : c.run_anew.new.self.restarted ≡ c.self.inside.begun.restarted + 1 =
    anew.restarted ∙ ap (λ (n : RunnerValue). n.restarted + 1) first.same in
    let two : 1 + c.run_anew.new.self.restarted - c.self.inside.begun.restarted ≡ 2 = omega (arith, once) in
    rw (← c.self.view_is) (record {
      limited = anew.spends.limited ∙ first.spends.limited;
      fewer = omega (arith, anew.spends.fewer, first.spends.fewer);
      spent = λ t w. rw two (omega (arith, anew.costs.spent t w, first.costs.spent t w));
      stops = λ limited.
          again_stops c.args.req.now c.args.start c.self.inside.memo (left_of c.args.allowed.now)
          (left_of c.run_once.new.allowed) (left_of c.run_anew.new.allowed) opened.1
          (first.costs.waited limited opened.1) (anew.costs.stops (first.spends.limited ∙ limited));
      settles = λ limited. if_ok (found_of c.run_anew.result c.run_anew.new.ended)
          (λ found told gives none. again_settles c.args.req.now c.args.start c.self.inside.memo
          (left_of c.args.allowed.now) (left_of c.run_once.new.allowed) (left_of c.run_anew.new.allowed) opened.1
          (first.costs.waited limited opened.1) c.run_anew.new.self.memo (gives none))
          (anew.costs.settles (first.spends.limited ∙ limited));
    })
