use Rattle.sre_machine.proofs.Terms.{ℕ, length, ◌-◌, Instruction, HasRun, Refuses, run_of}
use Rattle.sre_machine.proofs.machine.first_literal.Given as goal

abbrev pub invariant-mark : goal.invariant-mark
invariant-mark g l = record {
  at : HasRun (run_of l.req) (Instruction l.place) l.cursor;
  same : (p : ℕ) → Refuses (run_of l.req) l.place p → Refuses (run_of l.req) l.start p;
}

abbrev pub decreases-mark : goal.decreases-mark
decreases-mark g l = length (run_of l.req).words - l.place
