use Rattle.sre_machine.proofs.Terms.{not-true, arith, GreedyRun, run_of, run_there, operands_within, run_misses}
use Rattle.sre_machine.proofs.branches.misses_run.Goals as goal

pub operand-least-requires : goal.operand-least-requires
operand-least-requires g c =
    let r = run_of c.args.req.now in
    omega (
      arith,
      operands_within r.words c.args.place (run_there r GreedyRun _ c.args.cursor c.requires.opcode c.requires.stands),
    )

pub may_take-requires : goal.may_take-requires
may_take-requires g c =
    run_there (run_of c.args.req.now) GreedyRun _ c.args.cursor c.requires.opcode c.requires.stands

pub returns : goal.returns
returns g c = λ missed.
    let there = run_there (run_of c.args.req.now) GreedyRun _ c.args.cursor c.requires.opcode c.requires.stands in
    run_misses (run_of c.args.req.now) c.args.place c.operand-least.result c.args.character c.args.cursor
    c.requires.opcode there c.operand-least.ensures.word c.if-least-eq0.false c.requires.inside
    c.requires.character (c.may_take.ensures (not-true c.may_take.result missed))
