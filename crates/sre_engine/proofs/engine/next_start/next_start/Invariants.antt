use Rattle.sre_engine.proofs.Terms.{◌-◌, end_of, run_of, BarredUpTo}
use Rattle.sre_engine.proofs.engine.next_start.next_start.Given as goal

abbrev pub invariant-start : goal.invariant-start
invariant-start g l = BarredUpTo (run_of l.req) l.first l.fn.start.position l.cursor

abbrev pub decreases-start : goal.decreases-start
decreases-start g l = end_of l.req - l.cursor.position
