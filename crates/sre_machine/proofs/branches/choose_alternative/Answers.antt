use Rattle.sre_machine.proofs.Terms.{◌+◌, run_of, Alternatives, both_choose, later_continues}
use Rattle.sre_machine.proofs.branches.choose_alternative.Goals as goal

pub returns : goal.returns
returns g c = λ all limit x.
    later_continues (run_of c.args.req.now) _ _ c.args.cursor _ _ c.requires all limit
    (both_choose (run_of c.args.req.now) (c.args.first.length_word + 1) (Alternatives c.args.others) c.args.cursor _ _
    c.in_ok-save.ensures all limit x)
