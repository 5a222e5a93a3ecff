use Rattle.sre_machine.proofs.Terms.{Again, inl, arith}
use Rattle.sre_machine.proofs.Failing.{turn_goes_on, turn_left, turn_ended}
use Rattle.sre_machine.proofs.Tried.{paid_so}
use Rattle.sre_machine.proofs.trying.again_or_back.Goals as goal

pub again-requires : goal.again-requires
again-requires g c =
    c.is_hopeless.ensures.leaves.stays c.if-is_hopeless.false c.requires.stands

pub returns-clause-turn : goal.returns-clause-turn
returns-clause-turn g c =
    turn_goes_on c.args.req.now Again c.args.cursor _ _ _ _ _ c.again.result 0 (omega arith)
    (c.is_hopeless.ensures.leaves.goes c.if-is_hopeless.false)
    (paid_so c.args.req.now Again c.args.cursor c.args.board.now c.is_hopeless.new.board c.args.memo.now
    c.is_hopeless.new.memo c.keeping_at-keeping.result c.keeping_at-keeping.ensures (λ _. inl (λ on. on))
    (λ _ on. absurd on)) c.again.ensures

pub returns-in-Some-clause-turn : goal.returns-in-Some-clause-turn
returns-in-Some-clause-turn g c =
    turn_ended c.args.req.now Again c.args.cursor c.in-Some.end c.args.board.now c.args.memo.now c.in-Some.ensures.told

pub returns-then-is_hopeless-clause-turn : goal.returns-then-is_hopeless-clause-turn
returns-then-is_hopeless-clause-turn g c =
    turn_left c.args.req.now Again c.args.cursor _ _ _ _ (c.is_hopeless.ensures.leaves.left c.if-is_hopeless.true)
