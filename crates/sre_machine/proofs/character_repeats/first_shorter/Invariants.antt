use Rattle.sre_machine.proofs.Terms.{Shorter, HasRun, run_of, Skips}
use Rattle.sre_machine.proofs.character_repeats.first_shorter.Given as goal

abbrev pub invariant-count : goal.invariant-count
invariant-count g l = record {
  at : HasRun (run_of l.req) (Shorter l.tail l.left) l.cursor;
  same : Skips (run_of l.req) (Shorter l.tail l.count) l.fn.start (Shorter l.tail l.left) l.cursor;
}

abbrev pub decreases-count : goal.decreases-count
decreases-count g l = l.left
