use Rattle.sre_machine.proofs.Terms.{both_choose, run_of}
use Rattle.sre_machine.proofs.machine.choose.Goals as goal

pub returns : goal.returns
returns g c =
    both_choose (run_of c.args.req.now) c.args.place c.args.other c.args.cursor _ _ c.in_ok-save.ensures
