use Rattle.sre_machine.proofs.Terms.{sym, ap, ◌∙◌, Some, arith, next_frame, run_of, until_below, until_done}
use Rattle.sre_machine.proofs.Terms.{until_refused, until_alone, until_operands, Lazy, until_runs, until_lazy}
use Rattle.sre_machine.proofs.Terms.{lazy_board, entered_board}
use Rattle.sre_machine.proofs.LoopCounts.{in_progress}
use Rattle.sre_machine.proofs.loops.min_until.Goals as goal

pub returns-then-frame-least : goal.returns-then-frame-least
returns-then-frame-least g c =
    until_below (run_of c.args.req.now) Lazy _ _ _ _ _ c.enter.new.self _ (in_progress c.requires.opcode
    c.top-frame.ensures c.operand-least.ensures.word c.operand-greatest.ensures.word) c.if-frame-least.true
    (entered_board c.args.board.now c.leave.new.self c.enter.new.self _ _ c.leave.ensures c.in_ok-enter.ensures
    c.next_frame.ensures)

pub returns-then-not-may_repeat : goal.returns-then-not-may_repeat
returns-then-not-may_repeat g c =
    until_done (run_of c.args.req.now) Lazy _ _ _ _ _ c.leave.new.self _ (in_progress c.requires.opcode
    c.top-frame.ensures c.operand-least.ensures.word c.operand-greatest.ensures.word) (omega arith) (sym
    c.if-not-may_repeat.ensures) c.leave.ensures

pub refuses-requires : goal.refuses-requires
refuses-requires g c =
    (until_runs (run_of c.args.req.now) Lazy _ _ _ _ _ _ (in_progress c.requires.opcode c.top-frame.ensures
    c.operand-least.ensures.word c.operand-greatest.ensures.word) (omega arith) (sym c.if-not-may_repeat.ensures)
    c.requires.stands).0

pub returns-then-refuses : goal.returns-then-refuses
returns-then-refuses g c =
    until_refused (run_of c.args.req.now) Lazy _ _ _ _ _ c.leave.new.self _ (in_progress c.requires.opcode
    c.top-frame.ensures c.operand-least.ensures.word c.operand-greatest.ensures.word) (omega arith) (sym
    c.if-not-may_repeat.ensures) (c.refuses.ensures c.if-refuses.true) c.leave.ensures

pub ends_in_vain-requires : goal.ends_in_vain-requires
ends_in_vain-requires g c =
    (until_runs (run_of c.args.req.now) Lazy _ _ _ _ _ _ (in_progress c.requires.opcode c.top-frame.ensures
    c.operand-least.ensures.word c.operand-greatest.ensures.word) (omega arith) (sym c.if-not-may_repeat.ensures)
    c.requires.stands).1

pub returns-then-ends_in_vain : goal.returns-then-ends_in_vain
returns-then-ends_in_vain g c =
    until_alone (run_of c.args.req.now) Lazy _ _ _ _ _ c.enter-2.new.self _ (in_progress c.requires.opcode
    c.top-frame.ensures c.operand-least.ensures.word c.operand-greatest.ensures.word) (omega arith) (sym
    c.if-not-may_repeat.ensures) (c.ends_in_vain.ensures c.if-ends_in_vain.true) (entered_board c.args.board.now
    c.leave.new.self c.enter-2.new.self _ _ c.leave.ensures c.in_ok-enter-2.ensures (c.next_frame-2.ensures ∙ ap (λ p.
    next_frame c.top-frame.result (Some p)) c.position.ensures))

pub returns : goal.returns
returns g c =
    until_lazy (run_of c.args.req.now) _ _ _ _ _ c.leave-2.new.self _ (in_progress c.requires.opcode c.top-frame.ensures
    c.operand-least.ensures.word c.operand-greatest.ensures.word) (omega arith) (sym c.if-not-may_repeat.ensures)
    (lazy_board c.args.board.now c.leave.new.self c.enter-2.new.self c.save.new.self c.leave-2.new.self _ _ _ _
    c.leave.ensures c.in_ok-enter-2.ensures c.in_ok-save.ensures c.leave-2.ensures (c.next_frame-2.ensures ∙ ap (λ p.
    next_frame c.top-frame.result (Some p)) c.position.ensures))

pub operand-least-requires : goal.operand-least-requires
operand-least-requires g c =
    omega (
      arith,
      until_operands (run_of c.args.req.now) Lazy _ _ _ _ c.requires.opcode c.requires.stands
          c.top-frame.ensures,
    )

pub operand-greatest-requires : goal.operand-greatest-requires
operand-greatest-requires g c =
    omega (
      arith,
      until_operands (run_of c.args.req.now) Lazy _ _ _ _ c.requires.opcode c.requires.stands
          c.top-frame.ensures,
    )
