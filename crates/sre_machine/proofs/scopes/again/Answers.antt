use Rattle.sre_machine.proofs.Terms.{sym, ap, ◌∙◌, Some, arith, next_frame, run_of, again_done, again_owed}
use Rattle.sre_machine.proofs.Terms.{again_further, begun_board, again_operands}
use Rattle.sre_machine.proofs.LoopCounts.{in_possessive}
use Rattle.sre_machine.proofs.scopes.again.Goals as goal

pub returns-then-frame-least : goal.returns-then-frame-least
returns-then-frame-least g c =
    again_owed (run_of c.args.req.now) _ _ _ _ _ c.begin_region.new.self _ (in_possessive c.top-frame.ensures
    c.operand-skip.ensures.word c.operand-least.ensures.word c.operand-greatest.ensures.word) c.if-frame-least.true
    (begun_board c.args.board.now c.leave.new.self c.enter.new.self c.begin_region.new.self _ c.top-frame.result _ _ _
    c.leave.ensures c.in_ok-enter.ensures c.in_ok-begin_region.ensures c.next_frame.ensures)

pub returns-then-not-may_repeat : goal.returns-then-not-may_repeat
returns-then-not-may_repeat g c =
    again_done (run_of c.args.req.now) _ _ _ _ _ c.leave.new.self _ (in_possessive c.top-frame.ensures
    c.operand-skip.ensures.word c.operand-least.ensures.word c.operand-greatest.ensures.word) (omega arith) (sym
    c.if-not-may_repeat.ensures) c.leave.ensures

pub returns : goal.returns
returns g c =
    again_further (run_of c.args.req.now) _ _ _ _ _ c.begin_region-2.new.self _ (in_possessive c.top-frame.ensures
    c.operand-skip.ensures.word c.operand-least.ensures.word c.operand-greatest.ensures.word) (omega arith) (sym
    c.if-not-may_repeat.ensures) (begun_board c.args.board.now c.leave.new.self c.enter-2.new.self
    c.begin_region-2.new.self _ c.top-frame.result _ _ _ c.leave.ensures c.in_ok-enter-2.ensures
    c.in_ok-begin_region-2.ensures (c.next_frame-2.ensures ∙ ap (λ p. next_frame c.top-frame.result (Some p))
    c.position.ensures))

pub operand-least-requires : goal.operand-least-requires
operand-least-requires g c =
    omega (arith, again_operands (run_of c.args.req.now) _ _ _ c.requires c.top-frame.ensures)

pub operand-greatest-requires : goal.operand-greatest-requires
operand-greatest-requires g c =
    omega (arith, again_operands (run_of c.args.req.now) _ _ _ c.requires c.top-frame.ensures)

pub operand-skip-requires : goal.operand-skip-requires
operand-skip-requires g c =
    omega (arith, again_operands (run_of c.args.req.now) _ _ _ c.requires c.top-frame.ensures)
