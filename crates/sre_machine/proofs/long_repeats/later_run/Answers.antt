use Rattle.sre_machine.proofs.Terms.{◌≤◌, arith, run_of, longer_there}
use Rattle.sre_machine.proofs.LaterRuns.{last_end, others_wait}
use Rattle.sre_machine.proofs.long_repeats.later_run.Goals as goal

pub run_operands-operands-requires : goal.run_operands-operands-requires
run_operands-operands-requires g c =
    longer_there (run_of c.args.req.now) c.args.place c.args.count c.args.start c.requires

pub returns-in_default : goal.returns-in_default
returns-in_default g c = λ all limit x.
    let none = rw c.in_default.is at c.one_longer.ensures.longer in none c.args.board.now all limit x

pub returns-in_default-later_start : goal.returns-in_default-later_start
returns-in_default-later_start g c = λ all limit x.
    let lazy = c.if-not-goes_on_lazily.false in
    let skips = rw c.in-Some.is at c.one_longer.ensures.longer in
    let stopped = rw c.in_default-later_start.is at c.later_start.ensures in
    last_end c.args.req.now c.args.place c.args.count c.run_operands-operands.result
    c.run_operands-operands.ensures (c.goes_on_lazily.ensures.lazy lazy) (c.goes_on_lazily.ensures.greatest lazy)
    c.args.start c.in-Some.end skips c.args.board.now stopped all limit x

pub returns : goal.returns
returns g c = λ all limit x.
    let lazy = c.if-not-goes_on_lazily.false in
    let skips = rw c.in-Some.is at c.one_longer.ensures.longer in
    let few : c.run_operands-operands.result.least ≤ 1 = omega arith in
    others_wait c.args.req.now c.args.place c.args.count c.run_operands-operands.result
    c.run_operands-operands.ensures (c.goes_on_lazily.ensures.lazy lazy) (c.goes_on_lazily.ensures.greatest lazy)
    c.args.start c.in-Some.end skips c.args.board.now c.save.new.self c.in-Some-later_start.later few
    c.in-Some-later_start.ensures c.in_ok-save.ensures all limit x
