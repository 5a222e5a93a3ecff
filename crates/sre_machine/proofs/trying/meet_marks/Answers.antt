use Rattle.sre_machine.proofs.Terms.{ap, items_of, run_of}
use Rattle.sre_machine.proofs.Recalling.{recalls_met}
use Rattle.sre_machine.proofs.trying.meet_marks.Goals as goal

pub returns-then-may_branch_at-clause-remembers : goal.returns-then-may_branch_at-clause-remembers
returns-then-may_branch_at-clause-remembers g c =
    recalls_met (run_of c.args.req.now) c.args.memo.now c.meets.new.self c.meets.ensures.kept c.meets.ensures.ends
    c.meets.ensures.marked
    (items_of c.pattern_codes.result) (ap items_of c.pattern_codes.ensures) c.meets.ensures.end
    c.meets.ensures.idle c.requires.remembers
