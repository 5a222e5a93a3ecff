use Rattle.sre_engine.proofs.Terms.{◌≡◌, ◌≤◌, ◌+◌, ◌-◌, ◌++◌, map, vec_len, Tree, Whole, walk, most_matches, items_of}
use Rattle.sre_engine.proofs.Terms.{words_of, string_of, start_of, end_of, code_of, must_advance_of, asked_of}
use Rattle.sre_engine.proofs.Terms.{stands_in, StepsCount, SetsOf, match_of}
use Rattle.sre_engine.proofs.CountLaws.{step_of}
use Rattle.sre_engine.proofs.engine.whole_walk.add_matches.Given as goal

abbrev pub invariant-step : goal.invariant-step
invariant-step g l = record {
  here : stands_in l.req l.cursor (start_of l.req);
  code : code_of l.req ≡ code_of l.fn.req;
  string : string_of l.req ≡ string_of l.fn.req;
  suits : g.F.Starts.suits l.starts (string_of l.req) (code_of l.req);
  sets : SetsOf (items_of (code_of l.req)) l.sets;
  left : (t : Tree) → Whole (words_of (code_of l.fn.req)) t
      → map match_of l.all.items ++ walk (asked_of l.req) t ≡ map match_of l.fn.all.items ++ walk (asked_of l.fn.req) t;
  asked : asked_of l.req ≡ step_of (asked_of l.fn.req) (start_of l.req) (must_advance_of l.req);
  from : start_of l.fn.req ≤ start_of l.req;
  inside : start_of l.req ≤ end_of l.fn.req;
  longer : vec_len l.fn.all ≤ vec_len l.all;
  few : vec_len l.all - vec_len l.fn.all + most_matches (asked_of l.req) ≤ most_matches (asked_of l.fn.req);
  counted : StepsCount (asked_of l.fn.req) (code_of l.fn.req) (start_of l.req) (start_of l.req)
      (vec_len l.all - vec_len l.fn.all) l.tally.started l.tally.compared;
}

abbrev pub decreases-step : goal.decreases-step
decreases-step g l = most_matches (asked_of l.req)
