use Rattle.sre_machine.proofs.Terms.{GreedyRun, run_of, shorter_free, run_there, both_pass, both_exhausted}
use Rattle.sre_machine.proofs.Terms.{exhausted_back, run_short, run_both, run_runs, run_only, run_refuses}
use Rattle.sre_machine.proofs.character_repeats.repeat_one.Goals as goal

pub run_operands-operands-requires : goal.run_operands-operands-requires
run_operands-operands-requires g c =
    run_there (run_of c.args.req.now) GreedyRun _ c.args.cursor c.requires.opcode c.requires.stands

pub is_in_vain-requires-clause-test : goal.is_in_vain-requires-clause-test
is_in_vain-requires-clause-test g c = c.run_operands-operands.ensures.operands.test

pub returns-then-is_in_vain : goal.returns-then-is_in_vain
returns-then-is_in_vain g c =
    let r = run_of c.args.req.now in
    rw c.is_in_vain.ensures.board
    (exhausted_back r _ c.args.cursor c.args.board.now
    (run_refuses r _ _ _ _ c.args.cursor.position c.requires.opcode c.run_operands-operands.ensures.operands
    (c.is_in_vain.ensures.told c.if-is_in_vain.true)))

pub longest_run-run-requires-clause-test : goal.longest_run-run-requires-clause-test
longest_run-run-requires-clause-test g c = c.run_operands-operands.ensures.operands.test

pub returns-then-run-operands : goal.returns-then-run-operands
returns-then-run-operands g c =
    rw (c.pass.ensures, c.is_in_vain.ensures.board)
    (run_short (run_of c.args.req.now) _ _ _ _ c.longest_run-run.result.count c.args.cursor c.args.board.now
    c.requires.opcode c.run_operands-operands.ensures.operands c.longest_run-run.ensures.count
    c.if-run-operands.true)

pub first_literal-wanted-requires : goal.first_literal-wanted-requires
first_literal-wanted-requires g c =
    (run_runs (run_of c.args.req.now) _ _ _ _ c.longest_run-run.result.count c.args.cursor c.longest_run-run.result.end
    c.requires.opcode c.run_operands-operands.ensures.operands c.longest_run-run.ensures.count c.if-run-operands.false
    c.longest_run-run.ensures.position c.longest_run-run.ensures.stands c.requires.stands).0

pub shorter-requires-clause-stands : goal.shorter-requires-clause-stands
shorter-requires-clause-stands g c =
    (run_runs (run_of c.args.req.now) _ _ _ _ c.longest_run-run.result.count c.args.cursor c.longest_run-run.result.end
    c.requires.opcode c.run_operands-operands.ensures.operands c.longest_run-run.ensures.count c.if-run-operands.false
    c.longest_run-run.ensures.position c.longest_run-run.ensures.stands c.requires.stands).1

pub is_only_count-is_only-requires : goal.is_only_count-is_only-requires
is_only_count-is_only-requires g c = c.run_operands-operands.ensures.operands.test

pub returns-then-lacks : goal.returns-then-lacks
returns-then-lacks g c = λ all limit x.
    let r = run_of c.args.req.now in
    let both =
    run_both r _ _ _ _ c.longest_run-run.result.count c.args.cursor c.longest_run-run.result.end c.requires.opcode
    c.run_operands-operands.ensures.operands c.longest_run-run.ensures.count c.if-run-operands.false
    c.longest_run-run.ensures.position c.longest_run-run.ensures.stands c.args.board.now all limit x in
    c.in_ok-shorter.ensures all limit
    (rw (c.pass.ensures, c.is_in_vain.ensures.board) (both_pass r _ _ c.longest_run-run.result.end c.args.board.now
    shorter_free (c.lacks.ensures c.if-lacks.true _ c.first_literal-wanted.ensures) all limit both))

pub returns-then-is_only : goal.returns-then-is_only
returns-then-is_only g c = λ all limit x.
    let r = run_of c.args.req.now in
    let both =
    run_both r _ _ _ _ c.longest_run-run.result.count c.args.cursor c.longest_run-run.result.end c.requires.opcode
    c.run_operands-operands.ensures.operands c.longest_run-run.ensures.count c.if-run-operands.false
    c.longest_run-run.ensures.position c.longest_run-run.ensures.stands c.args.board.now all limit x in
    let none =
    run_only r _ _ _ _ c.longest_run-run.result.count c.args.cursor c.longest_run-run.result.end c.requires.opcode
    c.run_operands-operands.ensures.operands c.longest_run-run.ensures.count c.if-run-operands.false
    c.longest_run-run.ensures.position c.longest_run-run.ensures.stands _
    (c.is_only_count-is_only.ensures c.if-is_only.true) c.first_literal-wanted.ensures in
    rw (c.pass.ensures, c.is_in_vain.ensures.board)
    (exhausted_back r _ c.longest_run-run.result.end c.args.board.now none all limit
    (both_pass r _ _ c.longest_run-run.result.end c.args.board.now
    shorter_free (c.lacks.ensures c.if-lacks.true _ c.first_literal-wanted.ensures) all limit both))

pub returns-then-is_only-2 : goal.returns-then-is_only-2
returns-then-is_only-2 g c = λ all limit x.
    let r = run_of c.args.req.now in
    let both =
    run_both r _ _ _ _ c.longest_run-run.result.count c.args.cursor c.longest_run-run.result.end c.requires.opcode
    c.run_operands-operands.ensures.operands c.longest_run-run.ensures.count c.if-run-operands.false
    c.longest_run-run.ensures.position c.longest_run-run.ensures.stands c.args.board.now all limit x in
    let none =
    run_only r _ _ _ _ c.longest_run-run.result.count c.args.cursor c.longest_run-run.result.end c.requires.opcode
    c.run_operands-operands.ensures.operands c.longest_run-run.ensures.count c.if-run-operands.false
    c.longest_run-run.ensures.position c.longest_run-run.ensures.stands _
    (c.is_only_count-is_only.ensures c.if-is_only-2.true) c.first_literal-wanted.ensures in
    rw (c.pass.ensures, c.is_in_vain.ensures.board)
    (both_exhausted r _ _ c.longest_run-run.result.end c.args.board.now none all limit both)

pub returns : goal.returns
returns g c = λ all limit x.
    c.in_ok-choose.ensures all limit
    (rw (c.pass.ensures, c.is_in_vain.ensures.board)
    (run_both (run_of c.args.req.now) _ _ _ _ c.longest_run-run.result.count c.args.cursor
    c.longest_run-run.result.end c.requires.opcode c.run_operands-operands.ensures.operands
    c.longest_run-run.ensures.count c.if-run-operands.false c.longest_run-run.ensures.position
    c.longest_run-run.ensures.stands c.args.board.now all limit x))
