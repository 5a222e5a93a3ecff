use Rattle.sre_request.proofs.Terms.{run_of}
use Rattle.sre_model.proofs.CountingRuns.{taken_length}
use Rattle.sre_request.proofs.runs.run_up_to.Goals as goal

pub returns-clause-count : goal.returns-clause-count
returns-clause-count g c = λ j t s.
    taken_length (run_of c.args.req.now) c.args.place c.args.most _ j c.args.start _ t c.run_wanted.ensures s
