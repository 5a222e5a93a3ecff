use Rattle.sre_machine.proofs.Terms.{◌≤◌, ◌-◌, contains, MayRepeat, Strides, end_of, run_of, TellsBodies}
use Rattle.sre_machine.proofs.strides.stride.Given as goal

abbrev pub invariant-body : goal.invariant-body
invariant-body g l = record {
  on : Strides (run_of l.req) l.place l.fn.first l.fn.start l.frame l.cursor;
  more : MayRepeat (run_of l.req).words l.frame l.cursor.position;
  told : TellsBodies (run_of l.req) l.alternatives l.place (contains l.told);
  behind : l.fn.start.position ≤ l.cursor.position;
  inside : l.end ≤ end_of l.req;
}

abbrev pub decreases-body : goal.decreases-body
decreases-body g l = end_of l.req - l.cursor.position
