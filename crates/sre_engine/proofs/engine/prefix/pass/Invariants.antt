use Rattle.sre_engine.proofs.Terms.{◌≡◌, ◌-◌, slice_index, start_of, end_of, run_of}
use Rattle.sre_engine.proofs.Steps.{Inside}
use Rattle.sre_engine.proofs.engine.prefix.pass.Given as goal

abbrev pub invariant-front : goal.invariant-front
invariant-front g l = record {
  inside : Inside (run_of l.req).subject.text l.prefix.words.now (start_of l.req) (end_of l.req)
      l.fn.spot.cursor.position (l.fn.spot.cursor.position - l.fn.spot.matched) l.matched l.compared;
  character : l.character ≡ slice_index (run_of l.req).subject.text l.fn.spot.cursor.position;
}

abbrev pub decreases-front : goal.decreases-front
decreases-front g l = l.matched
