use Rattle.sre_engine.proofs.Terms.{◌-◌, ◌<◌, length, Tree, WholeItems, run_of, RunAhead}
use Rattle.sre_engine.proofs.engine.leading_run.leading_run.Given as goal

abbrev pub invariant-item : goal.invariant-item
invariant-item g l = record {
  within : l.place < length (run_of l.req).words;
  ahead : (t : Tree) → WholeItems (run_of l.req).words t → RunAhead (run_of l.req).words t l.place l.first;
}

abbrev pub decreases-item : goal.decreases-item
decreases-item g l = length (run_of l.req).words - l.place
