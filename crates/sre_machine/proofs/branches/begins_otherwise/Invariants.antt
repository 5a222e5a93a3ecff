use Rattle.sre_machine.proofs.Terms.{length, ◌-◌, Instruction, HasRun, Refuses, run_of}
use Rattle.sre_machine.proofs.branches.begins_otherwise.Given as goal

abbrev pub invariant-mark : goal.invariant-mark
invariant-mark g l = record {
  at : HasRun (run_of l.req) (Instruction l.place) l.cursor;
  same : Refuses (run_of l.req) l.place l.cursor.position → Refuses (run_of l.req) l.start l.cursor.position;
}

abbrev pub decreases-mark : goal.decreases-mark
decreases-mark g l = length (run_of l.req).words - l.place
