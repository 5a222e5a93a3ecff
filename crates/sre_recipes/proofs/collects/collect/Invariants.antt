use Rattle.sre_recipes.proofs.Terms.{◌≡◌, ◌≤◌, ℕ, false, words_of, string_of, end_of, start_of, code_of, asked_of}
use Rattle.sre_recipes.proofs.Terms.{request_of, has_ended, most_items, Bounds, Followed, FollowedRest}
use Rattle.sre_recipes.proofs.Steps.{Kept}
use Rattle.sre_recipes.proofs.collects.collect.Given as goal

abbrev pub invariant-walk : goal.invariant-walk
invariant-walk g l =
    let asked = l.req in
    let gathers = g.C.Collects.gathers (string_of asked) (end_of asked) in
    record {
      kept : Kept l.walk (string_of asked) (words_of (code_of asked)) (end_of asked);
      waits : (p : ℕ) → start_of (request_of l.walk) ≤ p → g.C.Collects.waits (string_of asked) p l.all;
      going : l.bounds.limit_exceeded ≡ false;
      begun : has_ended l.walk ≡ false;
      gathered : (after : Bounds) (rest : FollowedRest l.walk l.bounds after) (last : g.row.C.Denot)
          → gathers l.all rest.taken last
          → (all : Followed g.row.A.Denot (asked_of asked) (code_of asked) l.fn.bounds.most l.fn.bounds.steps after)
          × gathers l.fn.all all.taken last;
    }

abbrev pub decreases-walk : goal.decreases-walk
decreases-walk g l = most_items l.walk
