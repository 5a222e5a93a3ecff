use Rattle.sre_recipes.proofs.Terms.{◌≤◌, ℕ, Tree, Whole, words_of, string_of, start_of, end_of, code_of, StandsAt}
use Rattle.sre_finder.specs.SpanIters.{request_of, left_of, most_spans}
use Rattle.sre_recipes.proofs.Passing.{Stays}
use Rattle.sre_recipes.proofs.every.collect_spans.Given as goal

abbrev pub invariant-walk : goal.invariant-walk
invariant-walk g l =
    let asked = request_of l.fn.walk in
    let text = string_of asked in
    let gathers = g.C.Collects.gathers text (end_of asked) in
    record {
      stays : Stays l.walk text (code_of asked) (end_of asked);
      at : StandsAt (g.S.StrDrive.stands text) l.last (start_of (request_of l.walk));
      inside : start_of (request_of l.walk) ≤ end_of asked;
      waits : (p : ℕ) → start_of (request_of l.walk) ≤ p → g.C.Collects.waits text p l.all;
      gathered : (t : Tree) → Whole (words_of (code_of asked)) t → (after : g.row.C.Denot)
          → gathers l.all (left_of l.walk t) after → gathers l.fn.all (left_of l.fn.walk t) after;
    }

abbrev pub decreases-walk : goal.decreases-walk
decreases-walk g l = most_spans l.walk
