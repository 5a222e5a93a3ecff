-- What a run decides of its start, and what it says of the starts after it.
use Rattle.sre_engine.proofs.Terms.{[], inl, inr, ◌+◌, ◌≡◌, ◌≤◌, ℕ, arith, Option, Some, None, sym, ap, ◌∙◌, subst}
use Rattle.sre_engine.proofs.Terms.{StringCursor, Tree, Marks, no_marks, ways, Asked, Match, subject_of, is_accepted}
use Rattle.sre_engine.proofs.Terms.{at_start, found, Decides, outcomes, Run, NoneBetween, cases_lt, ◌<◌, Bool, true}
use Rattle.sre_engine.proofs.Terms.{List, refl, Test, char_at, holds, unlimited, longest_run, TestStands, RunLeads}
use Rattle.sre_engine.proofs.Terms.{FrontStands, RunStands, NoneUntil, none-found, MatchOption, read_passes}
use Rattle.sre_engine.proofs.Terms.{none_in_run}
use Rattle.sre_model.proofs.FoundLaws.{match_of_first, first_accepted-filter, at_start-is, least-found}

-- The first accepted outcome of a run is the match.

-- what a run for a request decides about; the words are those of its tree, whatever they are
abbrev run_for : Asked → (StringCursor → ℕ → Type 0) → Run
run_for a stands = record { words = []; subject = subject_of a; stands = stands; accepts = is_accepted a }

-- what a run decides is the match from its start
module _ (stands : StringCursor → ℕ → Type 0) (a : Asked) (t : Tree) (p : ℕ) (decided : Option StringCursor) (m : Marks)
    (d : Decides (run_for a stands) (outcomes (run_for a stands) t p) decided m) where
  pub none_at : decided ≡ None → at_start a t p ≡ None
  none_at is =
      first_accepted-filter a p (ways (subject_of a) t p no_marks)
      ∙ ap (match_of_first p) (subst (λ x. Decides (run_for a stands) (outcomes (run_for a stands) t p) x m) is d)

  pub some_at : (end : StringCursor) → decided ≡ Some end
      → stands end end.position × (at_start a t p ≡ Some (record { start = p; end = end.position; marks = m }))
  some_at end is =
      let e = subst (λ x. Decides (run_for a stands) (outcomes (run_for a stands) t p) x m) is d in
      (e.0, first_accepted-filter a p (ways (subject_of a) t p no_marks) ∙ ap (match_of_first p) e.1.1)

  -- the match lies in the window
  pub span_at : p ≤ a.end → (end : StringCursor) → decided ≡ Some end → (p ≤ end.position) × (end.position ≤ a.end)
  span_at inside end is = let from = at_start-is a t p _ inside (some_at end is).1 in (from.order, from.end)

-- the start alone
pub none_here : (a : Asked) (t : Tree) (p : ℕ) → at_start a t p ≡ None → NoneBetween a t p (p + 1)
none_here a t p none s from to = let same : p ≡ s = omega arith in subst (λ q. at_start a t q ≡ None) same none

-- starts up to a position, and from there on
pub none_joined : (a : Asked) (t : Tree) (o p q : ℕ) → NoneBetween a t o p → NoneBetween a t p q → NoneBetween a t o q
none_joined a t o p q before behind s from to = elim (cases_lt s p) [
  | (inl less) ↦ before s from less
  | (inr more) ↦ behind s more to
]

-- no start before a position has a match
abbrev pub NoneBefore : Asked → Tree → ℕ → Type 0
NoneBefore a t p = NoneBetween a t a.start p

-- the first that has one
pub found_first : (a : Asked) (t : Tree) (p : ℕ) (m : Match) → NoneBefore a t p → at_start a t p ≡ Some m → a.start ≤ p
    → p ≤ a.end → m.start ≡ p → found a t ≡ Some m
found_first a t p m before here from to start = least-found a t m (record {
  from = omega arith;
  to = omega arith;
  here = subst (λ q. at_start a t q ≡ Some m) (sym start) here;
  least = λ r l k. before r l (omega arith);
})

-- The starts after one without a match, and the repeat that leads from there.

module _ (a : Asked) (t : Tree) where
  -- one more start, or the window's end
  pub none_until : (p last : ℕ) (result : Option StringCursor) → NoneBetween a t p (last + 1)
      → MatchOption result (a.end ≤ last) (λ next. (next.position ≡ last + 1) × (next.position ≤ a.end))
      → NoneUntil a t p result
  none_until p last None none past = λ s from to. none s from (omega arith)
  none_until p last (Some next) none at = λ s from to. none s from (omega (arith, at.0))

  module _ (ws : List ℕ) (place p : ℕ) (none : at_start a t p ≡ None) where
    -- up to a run's end
    pub none_past_run : (k : ℕ) → RunStands ws t None place
        → ((j : ℕ) (x : Test) → TestStands ws place j x → k ≡ longest_run (subject_of a) x unlimited p)
        → NoneBetween a t p (p + k + 1)
    none_past_run k r count s from to = by_front r.front r.before r.leads
      where
        by_front : (front : Option Test) → FrontStands ws None front → RunLeads t front r.test → at_start a t s ≡ None
        by_front None before leads =
            let here : p + 0 ≡ p = omega arith in
            none_in_run a t None r.test p s leads refl none from
            (omega (arith, count r.end r.test r.stands, ap (longest_run (subject_of a) r.test unlimited) here))
        by_front (Some x) before leads = absurd before

    -- up to the place of the test in front of it from which the run would begin at its end
    pub none_behind_front : (first ch k : ℕ) (takes : Bool) → RunStands ws t (Some first) place → p < a.end
        → ch ≡ char_at (subject_of a) p
        → ((j : ℕ) (x : Test) → TestStands ws first j x → takes ≡ holds a.table x ch) → takes ≡ true
        → ((j : ℕ) (x : Test) → TestStands ws place j x → k ≡ longest_run (subject_of a) x unlimited (p + 1))
        → NoneBetween a t p (p + 1 + k)
    none_behind_front first ch k takes r inside read taken held count s from to =
        by_front r.front r.before r.leads
      where
        by_front : (front : Option Test) → FrontStands ws (Some first) front → RunLeads t front r.test
            → at_start a t s ≡ None
        by_front None before leads = absurd before
        by_front (Some x) before leads =
            none_in_run a t (Some x) r.test p s leads
            (read_passes (subject_of a) x p ch true inside read (sym held ∙ taken before.0 x before.1)) none from
            (omega (arith, count r.end r.test r.stands))

  -- up to the window's end
  pub found_none_behind : (p : ℕ) → NoneBefore a t p → NoneBetween a t p (a.end + 1) → found a t ≡ None
  found_none_behind p before behind =
      none-found a t (λ s from to. none_joined a t _ p (a.end + 1) before behind s from (omega arith))
