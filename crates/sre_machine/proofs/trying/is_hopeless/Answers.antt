use Rattle.std.proofs.Common.{rules, inl, inr}
use Rattle.sre_machine.proofs.Failing.{stays_on}
use Rattle.sre_machine.proofs.Opening.{goes_freely, goes_forgetting, forks_not, run_forks}
use Rattle.sre_machine.proofs.trying.is_hopeless.Goals as goal

pub returns-in-Nothing-clause-leaves : goal.returns-in-Nothing-clause-leaves
returns-in-Nothing-clause-leaves g c =
    stays_on c.args.req.now c.args.point c.args.cursor c.args.board.now c.args.board.now c.args.memo.now
    c.meet_marks.new.memo (λ x. x) (λ all limit x.
    goes_forgetting c.args.req.now c.args.point c.args.cursor c.args.board.now all limit x c.args.memo.now
    c.meet_marks.new.memo (c.requires.keeping.left c.in-Nothing.is))

pub returns-then-not-may_branch_at-clause-leaves : goal.returns-then-not-may_branch_at-clause-leaves
returns-then-not-may_branch_at-clause-leaves g c =
    stays_on c.args.req.now c.args.point c.args.cursor c.args.board.now c.args.board.now c.args.memo.now
    c.args.memo.now (λ x. x) (λ all limit x.
    goes_freely c.args.req.now c.args.point c.args.cursor c.args.board.now all limit x c.args.memo.now
    (c.may_branch_at.ensures.free c.if-not-may_branch_at.true))

pub returns-then-not-may_branch_at-clause-tries : goal.returns-then-not-may_branch_at-clause-tries
returns-then-not-may_branch_at-clause-tries g c = λ _ _ on.
    absurd (forks_not c.args.req.now c.args.point (run_forks c.args.req.now c.args.point on)
    (c.may_branch_at.ensures.free c.if-not-may_branch_at.true))

pub returns-else-not-may_branch_at-clause-tries : goal.returns-else-not-may_branch_at-clause-tries
returns-else-not-may_branch_at-clause-tries g c = λ told _ _. c.has_failed.ensures.tries told

pub returns-in-Marked-clause-tries : goal.returns-in-Marked-clause-tries
returns-in-Marked-clause-tries g c = λ told _ _. c.has_failed_marked.ensures.tries told

pub has_failed-requires-clause-no_end : goal.has_failed-requires-clause-no_end
has_failed-requires-clause-no_end g c =
    inr (c.requires.no_end c.in-Unmarked.is (c.may_branch_at.ensures.forks (search rules)))

pub has_failed-requires-clause-serves : goal.has_failed-requires-clause-serves
has_failed-requires-clause-serves g c = inl (c.requires.keeping.unmarked c.in-Unmarked.is)

pub returns-in-Idle-clause-tries : goal.returns-in-Idle-clause-tries
returns-in-Idle-clause-tries g c = λ told _ _. c.has_failed-in-Idle.ensures.tries told
