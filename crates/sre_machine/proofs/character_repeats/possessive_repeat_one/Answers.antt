use Rattle.sre_machine.proofs.Terms.{PossessiveRun, run_of, run_there, longest_short, longest_step}
use Rattle.sre_machine.proofs.character_repeats.possessive_repeat_one.Goals as goal

pub run_operands-operands-requires : goal.run_operands-operands-requires
run_operands-operands-requires g c =
    run_there (run_of c.args.req.now) PossessiveRun _ c.args.cursor c.requires.opcode c.requires.stands

pub longest_run-run-requires-clause-test : goal.longest_run-run-requires-clause-test
longest_run-run-requires-clause-test g c = c.run_operands-operands.ensures.operands.test

pub returns-then-run-operands : goal.returns-then-run-operands
returns-then-run-operands g c =
    rw c.pass.ensures (longest_short (run_of c.args.req.now) _ _ _ _ c.longest_run-run.result.count c.args.cursor
    c.args.board.now c.requires.opcode c.run_operands-operands.ensures.operands c.longest_run-run.ensures.count
    c.if-run-operands.true)

pub returns : goal.returns
returns g c =
    rw c.pass.ensures (longest_step (run_of c.args.req.now) _ _ _ _ c.longest_run-run.result.count c.args.cursor
    c.args.board.now c.requires.opcode c.run_operands-operands.ensures.operands c.longest_run-run.ensures.count
    c.longest_run-run.result.end c.if-run-operands.false c.longest_run-run.ensures.position
    c.longest_run-run.ensures.stands)
