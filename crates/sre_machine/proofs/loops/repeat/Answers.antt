use Rattle.sre_machine.proofs.Terms.{run_of, on_board, repeat_step, repeat_begun, repeat_further}
use Rattle.sre_machine.proofs.loops.repeat.Goals as goal

pub opcode-requires : goal.opcode-requires
opcode-requires g c =
    on_board (run_of c.args.req.now) _ c.args.cursor _
    (repeat_begun (run_of c.args.req.now) _ _ c.args.cursor c.args.board.now c.requires.opcode
    c.operand-skip.ensures.word c.requires.stands)

pub further-requires-clause-stands : goal.further-requires-clause-stands
further-requires-clause-stands g c =
    repeat_begun (run_of c.args.req.now) _ _ c.args.cursor c.args.board.now c.requires.opcode
    c.operand-skip.ensures.word c.requires.stands

pub returns-in_ok-further-in-MAX_UNTIL : goal.returns-in_ok-further-in-MAX_UNTIL
returns-in_ok-further-in-MAX_UNTIL g c =
    repeat_further (run_of c.args.req.now) _ _ c.args.cursor _ _ _ c.requires.opcode c.operand-skip.ensures.word
    c.in-MAX_UNTIL.ensures.code c.in_ok-further-in-MAX_UNTIL.ensures

pub returns-in_ok-enter-in_default : goal.returns-in_ok-enter-in_default
returns-in_ok-enter-in_default g c =
    repeat_step (run_of c.args.req.now) _ _ c.args.cursor _ _ c.requires.opcode c.operand-skip.ensures.word
    c.in_ok-enter-in_default.ensures
