use Rattle.sre_machine.proofs.Terms.{sym, refl, arith, Greedy, with_loop, asked_of, run_of, asked_by_stop, until_below}
use Rattle.sre_machine.proofs.Terms.{until_done, entered_on, until_operands, later_dropped}
use Rattle.sre_machine.proofs.LoopCounts.{in_progress, may_go_on}
use Rattle.sre_machine.proofs.Failing.{plain_words}
use Rattle.sre_machine.proofs.loops.further.Goals as goal

pub returns-then-frame-least : goal.returns-then-frame-least
returns-then-frame-least g c =
    until_below (run_of c.args.req.now) Greedy _ _ _ _ (with_loop c.args.frame c.args.board.now) c.enter.new.self
    c.args.frame (in_progress c.requires.opcode refl c.operand-least.ensures.word c.operand-greatest.ensures.word)
    c.if-frame-least.true (entered_on c.args.board.now c.enter.new.self _ _ c.in_ok-enter.ensures c.next_frame.ensures)

pub returns-then-not-may_repeat : goal.returns-then-not-may_repeat
returns-then-not-may_repeat g c = λ all limit st.
    later_dropped (run_of c.args.req.now) (asked_by_stop (asked_of c.args.req.now)) _ c.args.cursor
    c.refers-refers.result (plain_words c.args.req.now c.pattern_codes.result c.refers-refers.result
    c.pattern_codes.ensures c.refers-refers.ensures) c.args.board.now c.drop_same.new.self c.drop_same.ensures all limit
    (until_done (run_of c.args.req.now) Greedy _ _ _ _ (with_loop c.args.frame c.args.board.now) c.args.board.now
    c.args.frame (in_progress c.requires.opcode refl c.operand-least.ensures.word c.operand-greatest.ensures.word)
    (omega arith) (sym c.if-not-may_repeat.ensures) refl all limit st)

pub strided-requires-clause-more : goal.strided-requires-clause-more
strided-requires-clause-more g c =
    may_go_on c.operand-least.ensures.word c.operand-greatest.ensures.word (omega arith) (omega arith) (sym
    c.if-not-may_repeat.ensures)

pub body_or_end-requires-clause-more : goal.body_or_end-requires-clause-more
body_or_end-requires-clause-more g c =
    may_go_on c.operand-least.ensures.word c.operand-greatest.ensures.word (omega arith) (omega arith) (sym
    c.if-not-may_repeat.ensures)

pub operand-least-requires : goal.operand-least-requires
operand-least-requires g c =
    omega (
      arith,
      until_operands (run_of c.args.req.now) Greedy _ _ _ c.args.frame c.requires.opcode
          c.requires.stands refl,
    )

pub operand-greatest-requires : goal.operand-greatest-requires
operand-greatest-requires g c =
    omega (
      arith,
      until_operands (run_of c.args.req.now) Greedy _ _ _ c.args.frame c.requires.opcode
          c.requires.stands refl,
    )
