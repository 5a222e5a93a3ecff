use Rattle.sre_engine.proofs.Terms.{◌-◌, start_of, end_of, run_of, Here, NoPlace}
use Rattle.sre_engine.proofs.engine.prefix.find.Given as goal

abbrev pub invariant-spot : goal.invariant-spot
invariant-spot g l = record {
  stands : (run_of l.req).stands l.spot.cursor l.spot.cursor.position;
  here : Here (run_of l.req).subject.text l.prefix.words.now (start_of l.req) (end_of l.req) l.spot.cursor.position
      l.spot.matched l.compared;
  passed : NoPlace (run_of l.req).subject.text l.prefix.words.now (end_of l.req)
      (l.initial.spot.cursor.position - l.initial.spot.matched) (l.spot.cursor.position - l.spot.matched);
}

abbrev pub decreases-spot : goal.decreases-spot
decreases-spot g l = end_of l.req - l.spot.cursor.position
