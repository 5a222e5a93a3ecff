use Rattle.sre_machine.proofs.Terms.{run_of, continues_run, continues_then}
use Rattle.sre_machine.proofs.branches.behind_set.Goals as goal

pub behind_jump-requires : goal.behind_jump-requires
behind_jump-requires g c =
    continues_run (run_of c.args.req.now) _ _ c.args.cursor c.in-Some.behind.cursor c.in-Some.ensures c.requires.stands

pub returns : goal.returns
returns g c =
    continues_then (run_of c.args.req.now) _ _ c.args.cursor c.in-Some.behind.cursor c.in-Some.ensures _
    c.in-Some.behind.cursor c.behind_jump.ensures
