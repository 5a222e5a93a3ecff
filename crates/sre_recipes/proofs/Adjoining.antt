-- The matches of an iteration that adjoin each other: what a lexer takes of it.
use Rattle.sre_recipes.proofs.Terms.{either, ◌≡◌, ◌≢◌, ◌<◌, ◌≤◌, ◌+◌, ◌-◌, ℕ, zero, suc, List, [], ◌∷◌, ◌++◌, Bool}
use Rattle.sre_recipes.proofs.Terms.{true, false, not, Some, None, refl, sym, ap, ◌∙◌, subst, arith, inl, inr, eq-eqb}
use Rattle.sre_recipes.proofs.Terms.{Tree, Asked, Match, found, walk, found-least, found-is, walk-end, walk-next}
use Rattle.sre_recipes.proofs.Terms.{Ghosts, start_of, request_of, shown_of, Gives, SearchIter, token_matches, reached}
use Rattle.sre_recipes.proofs.Terms.{adjoining, unless_empty, Option, nat_eq, IfSome, and_parts, cases_eq}
use Rattle.sre_recipes.proofs.Terms.{ne_eqb, first_accepted, at_start, found-none, least-found, none-found, IsOver}
use Rattle.sre_recipes.proofs.Terms.{tokens_from, NoneAdjoins, match_shown, left_of}
use Rattle.std.proofs.lemmas.Bool.Decides.{nat_tests}
use Rattle.sre_engine.specs.Ways.{Way}

-- a token more
adjoining_more : (m : Match) (ms : List Match) (p : ℕ) → m.start ≡ p → p < m.end
    → adjoining p (m ∷ ms) ≡ m ∷ adjoining m.end ms
adjoining_more m ms p start more = grind (arith, nat_tests)

-- an empty match is passed
adjoining_empty : (m : Match) (ms : List Match) (p : ℕ) → m.start ≡ p → m.end ≡ p
    → adjoining p (m ∷ ms) ≡ adjoining p ms
adjoining_empty m ms p start end = grind (arith, nat_tests)

-- a gap ends them
adjoining_gap : (m : Match) (ms : List Match) (p : ℕ) → p < m.start → adjoining p (m ∷ ms) ≡ []
adjoining_gap m ms p gap = grind (arith, nat_tests)

-- a match at p is one of them unless it is empty, and the others are those from its end on
pub adjoining_step : (m : Match) (ms : List Match) (p : ℕ) → m.start ≡ p
    → adjoining p (m ∷ ms) ≡ unless_empty m ++ adjoining m.end ms
adjoining_step m ms p start = grind (arith, nat_tests)

-- so where the last one ends is told by those from its end on
pub reached_step : (m : Match) (ms : List Match) (p : ℕ) → m.start ≡ p
    → reached p (adjoining p (m ∷ ms)) ≡ reached m.end (adjoining m.end ms)
reached_step m ms p start = grind (arith, nat_tests)

-- what is asked from p on, with and without leave to be empty
abbrev pub asked_from : Asked → ℕ → Bool → Asked
asked_from b p must = record b { start = p; must_advance = must }

-- an answer that is no match without an advance
abbrev IsFar : ℕ → Option Match → Type 0
IsFar p r = IfSome r (λ m. m.end ≢ p)

-- the first accepted way is the first that advances, where it does, and none is where none is
one_way : (b : Asked) (p s : ℕ) (r : Option Match) (w : Way) (ws : List Way) → IsFar p r
    → first_accepted (asked_from b p false) s (w ∷ ws) ≡ r
    → (first_accepted (asked_from b p false) s ws ≡ r → first_accepted (asked_from b p true) s ws ≡ r)
    → first_accepted (asked_from b p true) s (w ∷ ws) ≡ r
one_way b p s r w ws far e later = grind (arith, nat_tests)

first_far : (b : Asked) (p s : ℕ) (r : Option Match) (ws : List Way) → IsFar p r
    → first_accepted (asked_from b p false) s ws ≡ r → first_accepted (asked_from b p true) s ws ≡ r
first_far b p s r [] far e = e
first_far b p s r (w ∷ ws) far e = one_way b p s r w ws far e (first_far b p s r ws far)

-- so of a search
found_far : (b : Asked) (t : Tree) (p : ℕ) (r : Option Match) → IsFar p r → found (asked_from b p false) t ≡ r
    → found (asked_from b p true) t ≡ r
found_far b t p None far e =
    none-found (asked_from b p true) t
    (λ s l k. first_far b p s None _ tt (found-none (asked_from b p false) t e s l k))
found_far b t p (Some m) far e =
    let is = found-least (asked_from b p false) t m e in
    least-found (asked_from b p true) t m
    (record {
      from = is.from;
      to = is.to;
      here = first_far b p m.start (Some m) _ far is.here;
      least = λ r l k. first_far b p r None _ tt (is.least r l k);
    })

-- an empty match at the front of a walk is none of what adjoins
adjoining_advances : (b : Asked) (t : Tree) (p : ℕ)
    → adjoining p (walk (asked_from b p false) t) ≡ adjoining p (walk (asked_from b p true) t)
adjoining_advances b t p = elim (either (found (asked_from b p false) t)) [
  | (inl none) ↦ ap (adjoining p) (walk-end _ t none ∙ sym (walk-end _ t (found_far b t p None tt none)))
  | (inr (m, some)) ↦ elim (cases_eq m.end p) [
    | inl end ↦
        let from = (found-least _ t m some).from in
        let order = (found-is _ t m some).order in
        let start : m.start ≡ p = omega (arith, from, order) in
        ap (adjoining p) (walk-next _ t m some)
        ∙ adjoining_empty m _ p start end
        ∙ ap (λ (must : Bool). adjoining p (walk (asked_from b m.end must) t))
        (eq-eqb m.end m.start (end ∙ sym start))
        ∙ ap (λ (q : ℕ). adjoining p (walk (asked_from b q true) t)) end
    | inr far ↦ ap (adjoining p)
        (walk-next _ t m some ∙ sym (walk-next _ t m (found_far b t p (Some m) far some)))
  ]
]

ends_later : (end p start : ℕ) → start ≡ p → start ≤ end → not (nat_eq end p) ≡ true → p < end
ends_later end p start is order advances = grind (arith, nat_tests)

-- what adjoins in a walk that has to advance is a token, and what adjoins from its end on
tokens_advance : (n : ℕ) (b : Asked) (t : Tree) (p : ℕ) → p ≤ b.end
    → ((q : ℕ) → p < q → q ≤ b.end → adjoining q (walk (asked_from b q false) t) ≡ tokens_from n b t q)
    → adjoining p (walk (asked_from b p true) t) ≡ tokens_from (suc n) b t p
tokens_advance n b t p inside later = elim (either (found (asked_from b p true) t)) [
  | (inl none) ↦ ap (adjoining p) (walk-end _ t none)
      ∙ rw (found-none (asked_from b p true) t none p (omega arith) inside, tokens_from) refl
  | (inr (m, some)) ↦
      let least = found-least (asked_from b p true) t m some in
      let is = found-is (asked_from b p true) t m some in elim (cases_eq m.start p) [
        | inl start ↦
            let here = subst (λ (q : ℕ). at_start (asked_from b p true) t q ≡ Some m) start least.here in
            let advances = (and_parts _ (not (nat_eq m.end p)) is.accepted).1 in
            let more = ends_later m.end p m.start start is.order advances in
            ap (adjoining p) (walk-next _ t m some)
            ∙ adjoining_more m _ p start more
            ∙ ap (λ (must : Bool). m ∷ adjoining m.end (walk (asked_from b m.end must) t))
            (ne_eqb m.end m.start (λ e. omega arith))
            ∙ ap (λ (ms : List Match). m ∷ ms) (later m.end more is.end)
            ∙ rw (here, tokens_from) refl
        | inr apart ↦
            let gap : p < m.start = omega (arith, least.from, apart) in
            ap (adjoining p) (walk-next _ t m some)
            ∙ adjoining_gap m _ p gap
            ∙ rw (least.least p (omega arith) gap, tokens_from) refl
      ]
]

-- and they are so in the walk over a request's window
pub adjoining_tokens : (n : ℕ) (b : Asked) (t : Tree) (p : ℕ) (must : Bool) → p ≤ b.end → b.end + 1 - p ≤ n
    → adjoining p (walk (asked_from b p must) t) ≡ tokens_from n b t p
adjoining_tokens zero b t p must l h = absurd (omega arith)
adjoining_tokens (suc n) b t p true l h =
    tokens_advance n b t p l (λ q less in_window. adjoining_tokens n b t q false in_window (omega arith))
adjoining_tokens (suc n) b t p false l h =
    adjoining_advances b t p
    ∙ tokens_advance n b t p l (λ q less in_window. adjoining_tokens n b t q false in_window (omega arith))

pub walk_tokens : (b : Asked) (t : Tree) → b.start ≤ b.end → adjoining b.start (walk b t) ≡ token_matches b t
walk_tokens b t inside =
    adjoining_tokens (b.end + 1 - b.start) b t b.start b.must_advance inside (omega arith)

-- nothing adjoins behind a gap, and nothing at a walk's end
pub gap_none : {S A : Type 0} {text : Ghosts S} (it next : SearchIter S A text) → Gives it next
    → (shown_of next).start ≢ start_of (request_of it) → NoneAdjoins it
gap_none it next gives apart = record {
  none = λ t tree.
      let from = gives.request.from in
      ap (adjoining (start_of (request_of it))) (gives.first t tree)
      ∙ adjoining_gap (match_shown (shown_of next)) (left_of next t) (start_of (request_of it)) (omega arith);
}

pub over_none : {S A : Type 0} {text : Ghosts S} (it : SearchIter S A text) → IsOver it → NoneAdjoins it
over_none it over = record { none = λ t tree. ap (adjoining (start_of (request_of it))) (over.none t tree) }
