use Rattle.sre_engine.proofs.Terms.{◌≡◌, ◌+◌, ◌-◌, true, string_of, end_of, code_of, asked_of, run_of}
use Rattle.sre_engine.proofs.Looking.{Searching}
use Rattle.sre_engine.proofs.engine.state.State.search_along.Given as goal

abbrev pub invariant-candidate : goal.invariant-candidate
invariant-candidate g l = record {
  looks : g.C.Candidates.looks l.candidates (run_of l.req) (asked_of l.req) (code_of l.req) l.self-inside.compared;
  suits : g.F.Starts.suits l.starts (string_of l.req) (code_of l.req);
  searching : Searching g.row.A.Denot l.req l.self-inside.runner l.fn.allowed l.allowed
      (g.C.Candidates.front l.candidates);
  single : g.C.Candidates.single ≡ true → l.self-inside.runner.started ≡ 0;
}

abbrev pub decreases-candidate : goal.decreases-candidate
decreases-candidate g l = end_of l.req + 1 - g.C.Candidates.front l.candidates
