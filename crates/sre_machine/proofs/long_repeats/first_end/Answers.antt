use Rattle.std.proofs.Common.{◌-◌, ◌<◌, arith}
use Rattle.sre_machine.proofs.EndlessRuns.{lacks_cut, lacks_run, ends_only, ends_more}
use Rattle.sre_machine.proofs.long_repeats.first_end.Goals as goal

pub returns-then-saturating_sub-least-clause-ends :
    goal.returns-then-saturating_sub-least-clause-ends
returns-then-saturating_sub-least-clause-ends g c =
    let short : c.args.req.now.end - c.args.start.position < c.args.least = omega arith in
    lacks_cut c.args.req.now c.args.place c.args.least c.args.start.position short

pub returns-then-run-least-clause-ends : goal.returns-then-run-least-clause-ends
returns-then-run-least-clause-ends g c =
    lacks_run c.args.req.now c.args.place c.args.least c.args.start.position c.run_up_to-run.result.count
    c.run_up_to-run.ensures.count c.if-run-least.true

pub returns-then-not-takes_next-clause-ends : goal.returns-then-not-takes_next-clause-ends
returns-then-not-takes_next-clause-ends g c =
    ends_only c.args.req.now c.args.place c.args.least c.args.start.position c.run_up_to-run.result.count
    c.run_up_to-run.ensures.count c.run_up_to-run.result.end c.requires.test c.if-run-least.false
    c.run_up_to-run.ensures.position
    c.run_up_to-run.ensures.stands (c.takes_next.ensures.not_taken c.if-not-takes_next.true)

pub returns-clause-ends : goal.returns-clause-ends
returns-clause-ends g c =
    ends_more c.args.req.now c.args.place c.args.least c.args.start.position c.run_up_to-run.result.count
    c.run_up_to-run.ensures.count c.run_up_to-run.result.end c.requires.test c.if-run-least.false
    c.run_up_to-run.ensures.position c.run_up_to-run.ensures.stands c.read-character.result.1
    (c.takes_next.ensures.taken
    c.if-not-takes_next.false) c.read-character.ensures.position c.read-character.ensures.stands
