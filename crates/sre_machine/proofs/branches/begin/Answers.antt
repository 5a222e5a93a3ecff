use Rattle.sre_machine.proofs.Terms.{run_of, reached_within}
use Rattle.sre_machine.proofs.branches.begin.Goals as goal

pub word-requires : goal.word-requires
word-requires g c = reached_within (run_of c.args.req.now) c.args.place c.args.cursor c.requires.stands
