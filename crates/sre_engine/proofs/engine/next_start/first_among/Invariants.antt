use Rattle.sre_engine.proofs.Terms.{◌-◌, end_of, run_of, WantedFrom, Characters}
use Rattle.sre_engine.proofs.engine.next_start.first_among.Given as goal

abbrev pub invariant-character : goal.invariant-character
invariant-character g l = WantedFrom (run_of l.req) (Characters l.characters) l.fn.start l.cursor

abbrev pub decreases-character : goal.decreases-character
decreases-character g l = end_of l.req - l.cursor.position
