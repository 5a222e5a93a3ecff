use Rattle.sre_machine.proofs.Terms.{◌<◌, ◌-◌, arith, LazyRun, run_of, longer_free, both_pass, run_there}
use Rattle.sre_turns.proofs.semantics.StepsInRuns.{lazy_cut, lazy_short, lazy_both, lazy_runs}
use Rattle.sre_machine.proofs.character_repeats.min_repeat_one.Goals as goal

pub run_operands-operands-requires : goal.run_operands-operands-requires
run_operands-operands-requires g c =
    run_there (run_of c.args.req.now) LazyRun c.args.place c.args.cursor c.requires.opcode c.requires.stands

pub run_up_to-run-requires-clause-test : goal.run_up_to-run-requires-clause-test
run_up_to-run-requires-clause-test g c = c.run_operands-operands.ensures.operands.test

pub returns-then-saturating_sub-least : goal.returns-then-saturating_sub-least
returns-then-saturating_sub-least g c =
    let short : c.args.req.now.end - c.args.cursor.position < c.run_operands-operands.result.least = omega arith in
    lazy_cut (run_of c.args.req.now) _ _ _ _ c.args.cursor c.requires.opcode c.run_operands-operands.ensures.operands
    c.args.board.now short

pub returns-then-run-least : goal.returns-then-run-least
returns-then-run-least g c =
    rw c.pass.ensures (lazy_short (run_of c.args.req.now) _ _ _ _ c.args.cursor c.requires.opcode
    c.run_operands-operands.ensures.operands c.args.board.now c.run_up_to-run.result.count c.run_up_to-run.ensures.count
    c.if-run-least.true)

pub refuses-requires : goal.refuses-requires
refuses-requires g c =
    (lazy_runs (run_of c.args.req.now) _ _ _ _ c.args.cursor c.requires.opcode
    c.run_operands-operands.ensures.operands c.run_up_to-run.result.count c.run_up_to-run.result.end
    c.run_up_to-run.ensures.count c.if-run-least.false c.run_up_to-run.ensures.position
    c.run_up_to-run.ensures.stands c.requires.stands).0

pub longer-requires : goal.longer-requires
longer-requires g c =
    (lazy_runs (run_of c.args.req.now) _ _ _ _ c.args.cursor c.requires.opcode
    c.run_operands-operands.ensures.operands c.run_up_to-run.result.count c.run_up_to-run.result.end
    c.run_up_to-run.ensures.count c.if-run-least.false c.run_up_to-run.ensures.position
    c.run_up_to-run.ensures.stands c.requires.stands).1

pub returns-then-refuses : goal.returns-then-refuses
returns-then-refuses g c = λ all limit x.
    c.in_ok-longer.ensures all limit
    (rw c.pass.ensures (both_pass (run_of c.args.req.now) _ _ c.run_up_to-run.result.end c.args.board.now
    longer_free (c.refuses.ensures c.if-refuses.true) all limit
    (lazy_both (run_of c.args.req.now) _ _ _ _ c.args.cursor c.requires.opcode
    c.run_operands-operands.ensures.operands c.run_up_to-run.result.count c.run_up_to-run.result.end
    c.run_up_to-run.ensures.count c.if-run-least.false c.run_up_to-run.ensures.position
    c.run_up_to-run.ensures.stands c.args.board.now all limit x)))

pub returns : goal.returns
returns g c = λ all limit x.
    c.in_ok-choose.ensures all limit
    (rw c.pass.ensures (lazy_both (run_of c.args.req.now) _ _ _ _ c.args.cursor c.requires.opcode
    c.run_operands-operands.ensures.operands c.run_up_to-run.result.count c.run_up_to-run.result.end
    c.run_up_to-run.ensures.count c.if-run-least.false c.run_up_to-run.ensures.position
    c.run_up_to-run.ensures.stands c.args.board.now all limit x))
