use Rattle.sre_machine.proofs.Terms.{length, ◌-◌, Alternatives, HasRun, Continues, run_of}
use Rattle.sre_machine.proofs.branches.first_alternative.Given as goal

abbrev pub invariant-alternative : goal.invariant-alternative
invariant-alternative g l = record {
  at : HasRun (run_of l.req) (Alternatives l.place) l.cursor;
  on : Continues (run_of l.req) (Alternatives l.start) l.cursor (Alternatives l.place) l.cursor;
}

abbrev pub decreases-alternative : goal.decreases-alternative
decreases-alternative g l = length (run_of l.req).words - l.place
