use Rattle.sre_machine.proofs.Terms.{length, ◌-◌, contains, HasRun, Alternatives, run_of, TellsAlternatives}
use Rattle.sre_machine.proofs.strides.known_bodies.Given as goal

abbrev pub invariant-alternative : goal.invariant-alternative
invariant-alternative g l = record {
  stands : HasRun (run_of l.req) (Alternatives l.at) l.cursor;
  told : TellsAlternatives (run_of l.req) l.fn.start l.at l.place (contains l.none) (contains l.only);
}

abbrev pub decreases-alternative : goal.decreases-alternative
decreases-alternative g l = length (run_of l.req).words - l.at
