use Rattle.sre_machine.proofs.Terms.{rules, Instruction}
use Rattle.sre_machine.proofs.Failing.{turn_goes_on, turn_tried, turn_left, turn_ended}
use Rattle.sre_machine.proofs.Tried.{paid_so}
use Rattle.sre_machine.proofs.trying.instruction_or_back.Goals as goal

pub instruction-requires : goal.instruction-requires
instruction-requires g c =
    c.is_hopeless.ensures.leaves.stays c.if-is_hopeless.false c.requires.stands

pub returns-in-Some-clause-turn : goal.returns-in-Some-clause-turn
returns-in-Some-clause-turn g c =
    turn_ended c.args.req.now (Instruction c.args.place) c.args.cursor c.in-Some.end c.args.board.now c.args.memo.now
    c.in-Some.ensures.told

pub returns-then-is_hopeless-clause-turn : goal.returns-then-is_hopeless-clause-turn
returns-then-is_hopeless-clause-turn g c =
    turn_left c.args.req.now (Instruction c.args.place) c.args.cursor _ _ _ _
    (c.is_hopeless.ensures.leaves.left c.if-is_hopeless.true)

pub returns-clause-turn : goal.returns-clause-turn
returns-clause-turn g c =
    turn_goes_on c.args.req.now (Instruction c.args.place) c.args.cursor _ _ _ _ _ c.instruction.result _ (search rules)
    (c.is_hopeless.ensures.leaves.goes c.if-is_hopeless.false)
    (paid_so c.args.req.now (Instruction c.args.place) c.args.cursor c.args.board.now c.is_hopeless.new.board
    c.args.memo.now c.is_hopeless.new.memo c.keeping_at-keeping.result c.keeping_at-keeping.ensures
    (c.goes_on_endlessly.ensures.off c.if-goes_on_endlessly.false)
    (c.is_hopeless.ensures.tries c.if-is_hopeless.false))
    c.instruction.ensures

pub returns-then-goes_on_endlessly-clause-turn : goal.returns-then-goes_on_endlessly-clause-turn
returns-then-goes_on_endlessly-clause-turn g c =
    turn_tried c.args.req.now c.args.place c.args.cursor _ _ _ _ _ c.endless_run.result _ (search rules)
    (c.is_hopeless.ensures.tries c.if-is_hopeless.false
    (c.goes_on_endlessly.ensures.keeps c.if-goes_on_endlessly.true)
    (c.goes_on_endlessly.ensures.on c.if-goes_on_endlessly.true)) c.endless_run.ensures
