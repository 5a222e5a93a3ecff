use Rattle.sre_machine.proofs.Terms.{arith, ◌∙◌, run_of, look_operand, look_step, Negative, not_ahead_early}
use Rattle.sre_machine.proofs.scopes.assert_not.Goals as goal

pub operand-skip-requires : goal.operand-skip-requires
operand-skip-requires g c =
    omega (arith, look_operand (run_of c.args.req.now) Negative _ c.args.cursor c.requires.opcode c.requires.stands)

pub operand-back-requires : goal.operand-back-requires
operand-back-requires g c =
    look_operand (run_of c.args.req.now) Negative _ c.args.cursor c.requires.opcode c.requires.stands

pub returns-then-position-back : goal.returns-then-position-back
returns-then-position-back g c =
    not_ahead_early (run_of c.args.req.now) c.args.place c.operand-skip.result c.operand-back.result c.args.cursor
    c.args.board.now
    (record { code = c.requires.opcode; leads = c.operand-skip.ensures.word; there = c.operand-back.ensures.word })
    (omega arith)

pub returns : goal.returns
returns g c =
    look_step (run_of c.args.req.now) Negative c.args.place c.operand-skip.result c.operand-back.result c.args.cursor
    c.back_by.result c.args.board.now c.pass.new.self
    (record { code = c.requires.opcode; leads = c.operand-skip.ensures.word; there = c.operand-back.ensures.word })
    (omega arith) c.back_by.ensures.position c.back_by.ensures.stands (c.pass.ensures ∙ c.in_ok-begin_region.ensures)
