use Rattle.sre_machine.proofs.Terms.{run_of, branch_run, later_again, branch_step}
use Rattle.sre_machine.proofs.branches.branch.Goals as goal

pub alternatives-requires : goal.alternatives-requires
alternatives-requires g c = branch_run (run_of c.args.req.now) _ c.args.cursor c.requires.opcode c.requires.stands

pub returns : goal.returns
returns g c = λ all limit x.
    let s = branch_step (run_of c.args.req.now) _ c.args.cursor _ c.requires.opcode all limit x in
    later_again (run_of c.args.req.now) all limit _ _ s.0 (c.in_ok-alternatives.ensures all (_) s.1)
