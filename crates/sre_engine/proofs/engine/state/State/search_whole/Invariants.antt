use Rattle.sre_engine.proofs.Terms.{◌≡◌, ◌+◌, ◌-◌, Tree, no_marks, Whole, bare, words_of, start_of, end_of, code_of}
use Rattle.sre_engine.proofs.Terms.{asked_of, run_of, Here}
use Rattle.sre_engine.proofs.LeadingStarts.{NoneBefore}
use Rattle.sre_engine.proofs.engine.state.State.search_whole.Given as goal

abbrev pub invariant-place : goal.invariant-place
invariant-place g l = record {
  stands : (run_of l.req).stands l.spot.cursor l.spot.cursor.position;
  here : Here (run_of l.req).subject.text l.prefix.words.now (start_of l.req) (end_of l.req) l.spot.cursor.position
      l.spot.matched l.self-inside.compared;
  fresh : l.self-inside.runner.board ≡ bare no_marks;
  idle : l.self-inside.runner.started ≡ 0;
  calm : l.self-inside.runner.restarted ≡ 0;
  none : (t : Tree) → Whole (words_of (code_of l.req)) t
      → NoneBefore (asked_of l.req) t (l.spot.cursor.position - l.spot.matched);
}

abbrev pub decreases-place : goal.decreases-place
decreases-place g l = end_of l.req + 1 - (l.spot.cursor.position - l.spot.matched)
