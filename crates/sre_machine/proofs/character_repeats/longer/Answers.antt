use Rattle.sre_machine.proofs.Terms.{run_of, longer_there}
use Rattle.sre_machine.proofs.character_repeats.longer.Goals as goal

pub run_operands-tail-requires : goal.run_operands-tail-requires
run_operands-tail-requires g c =
    longer_there (run_of c.args.req.now) c.args.place c.args.count c.args.start c.requires

pub first_longer-reach-requires-clause-tail : goal.first_longer-reach-requires-clause-tail
first_longer-reach-requires-clause-tail g c = c.run_operands-tail.ensures.operands.leads

pub returns : goal.returns
returns g c = λ all limit x.
    let reached = rw c.in-Some.is at c.first_longer-reach.ensures in
    c.in_ok-choose.ensures all limit (rw c.pass.ensures (reached.skips c.args.board.now all limit x))

pub returns-in_default : goal.returns-in_default
returns-in_default g c = λ all limit x.
    let none = rw c.in_default.is at c.first_longer-reach.ensures in
    rw c.pass.ensures (none c.args.board.now all limit x)
