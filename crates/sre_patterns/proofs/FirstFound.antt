-- A search for a pattern that tries a tree's match paths in order, each of which reads a byte, finds what the tree's
-- semantics finds: over bytes, and over UTF-8, where its matches begin at characters.
use Rattle.sre_patterns.proofs.Terms.{Subject, ◌≡◌, ℕ, ◌≤◌, ◌<◌, true, false, cond, List, [], ◌∷◌, length, Some, None}
use Rattle.sre_patterns.proofs.Terms.{refl, sym, ap, ◌∙◌, ⊎_elim, arith, AllByRecursion, nat_tests, none-some}
use Rattle.sre_patterns.proofs.Terms.{same_Some, Re, Tree, no_marks, Way, ways, Between, ways-bounded, View, ExactTree}
use Rattle.sre_patterns.proofs.Terms.{IsPlace, Rises, Trace, accept, attempt}
use Rattle.regex_hir.proofs.AttemptLemmas.{attempt_sound}
use Rattle.regex_hir.specs.Matches.{IsMinLen}
use Rattle.regex_hir.proofs.FindLemmas.{IsFirst-of_first_between, none_of_first_between}
use Rattle.sre_model.specs.Found.{Asked, Match, subject_of, is_accepted, first_accepted, at_start, found}
use Rattle.sre_model.proofs.FoundLaws.{least-found, none-found}
use Rattle.sre_patterns.proofs.InOrder.{first_end, first-way, exact-moves}
use Rattle.regex_hir.specs.Find as bytes

-- the match that is found goes from where a match of bytes starts to where that ends, as positions stand at bytes
pub record FoundAt (a : Asked) (t : Tree) (off : ℕ → ℕ) (f : bytes.Match) : Type 0 where
  pub match : Match
  pub is : found a t ≡ Some match
  pub starts : off match.start ≡ f.start
  pub ends : off match.end ≡ f.trace.end
  pub from : a.start ≤ match.start
  pub forward : match.start < match.end
  pub inside : match.end ≤ a.end

-- each match of the pattern reads a byte, so that it must advance bars none
module _ (V : View) (rises : Rises V) (a : Asked) (hay : List ℕ) (off : ℕ → ℕ) (v : V (subject_of a) hay off)
    (whole : off a.end ≡ length hay) (window : a.start ≤ a.end) (re : Re) (t : Tree) (x : ExactTree V a.table re t)
    (reads : IsMinLen re 1) (all : a.match_all ≡ false) where
  abbrev s : Subject
  s = subject_of a

  -- the match paths from a position
  abbrev paths : ℕ → List Way
  paths p = ways s t p no_marks

  -- positions in order stand at bytes in order
  grows : (p q : ℕ) → p ≤ q → q ≤ a.end → off p ≤ off q
  grows p q l h =
      let less : p < q → off p < off q = λ k. rises s hay off v p q k h in
      let same : p ≡ q → off p ≡ off q = λ e. ap off e in
      grind arith

  -- a match of the pattern from a position is the first way's end, and there is none where there is no way
  first-ends : (p : ℕ) → p ≤ a.end → attempt hay re accept (off p) ≡ first_end s hay off (paths p)
  first-ends p l = first-way s hay off re (ways s t) (x.tries s hay off v refl) p no_marks l

  accepted : (p : ℕ) → a.start ≤ p → (w : Way) → p < w.stop → is_accepted a w ≡ true
  accepted p from w on = grind (arith, nat_tests)

  moving : (p : ℕ) → p ≤ a.end → AllByRecursion (λ w. p < w.stop) (paths p)
  moving p l =
      exact-moves s hay off re (ways s t) (x.tries s hay off v refl) reads (ways-bounded s t) p no_marks l

  none-there : (p : ℕ) (ws : List Way) → first_end s hay off ws ≡ None → first_accepted a p ws ≡ None
  none-there p [] e = refl
  none-there p (w ∷ ws) e = absurd (none-some _ (sym e))

  -- a match from p, of the first way there
  some-there : (p : ℕ) (trace : Trace) (ws : List Way) → a.start ≤ p → AllByRecursion (λ w. p < w.stop) ws
      → AllByRecursion (Between s p) ws → first_end s hay off ws ≡ Some trace
      → (m : Match) × (m.start ≡ p) × (off m.end ≡ trace.end) × (m.end ≤ a.end) × (p < m.end)
      × (first_accepted a p ws ≡ Some m)
  some-there p trace [] from on within e = absurd (none-some _ e)
  some-there p trace (w ∷ ws) from on within e =
      let m : Match = record { start = p; end = w.stop; marks = w.marks } in (
        m,
        refl,
        ap (λ (x : Trace). x.end) (same_Some _ trace e),
        within.0.1,
        on.0,
        ap (λ y. cond y (Some m) (first_accepted a p ws)) (accepted p from w on.0),
      )

  -- nothing, where the search finds nothing
  pub none-found_by : bytes.find re hay (off a.start) ≡ None → found a t ≡ None
  unfolding bytes.find
  none-found_by e =
      none-found a t (λ p k l. none-there p (paths p)
      (sym (first-ends p l)
      ∙ none_of_first_between (attempt hay re accept) (off a.start) (length hay) e (off p) (grows a.start p k l)
      (omega (arith, grows p a.end l (omega arith), whole))))

  -- what it finds begins where a position stands, since it reads a byte
  begins : (f : bytes.Match) → attempt hay re accept f.start ≡ Some f.trace → IsPlace s off f.start
  unfolding IsMinLen
  begins f e =
      let k = attempt_sound hay re accept f.start f.trace e in
      let on = reads hay f.start k.at k.leads in
      ⊎_elim (λ stays. absurd (omega (arith, on, stays))) (λ at. at) (x.begins s hay off v f.start k.at k.leads)

  -- a position behind the window's start in bytes is behind it
  not-before : (p : ℕ) → p ≤ a.end → off a.start ≤ off p → a.start ≤ p
  not-before p l h =
      let less : p < a.start → off p < off a.start = λ k. rises s hay off v p a.start k window in
      grind arith

  pub found_by : (f : bytes.Match) → bytes.find re hay (off a.start) ≡ Some f → FoundAt a t off f
  unfolding bytes.find
  found_by f e =
      let first = IsFirst-of_first_between (attempt hay re accept) (off a.start) (length hay) f e in
      let at = begins f first.here in
      let p = at.0 in
      let from = not-before p at.1 (omega (arith, first.from, at.2)) in
      let it =
      some-there p f.trace (paths p) from (moving p at.1) (ways-bounded s t p no_marks at.1)
      (sym (first-ends p at.1) ∙ ap (attempt hay re accept) at.2 ∙ first.here) in
      record {
        match = it.0;
        is = least-found a t it.0 (record {
          from = omega (arith, from, it.1);
          to = omega (arith, at.1, it.1);
          here = ap (at_start a t) it.1 ∙ it.5;
          least = λ r k l. none-there r (paths r)
              (sym (first-ends r (omega (arith, at.1, it.1, l)))
              ∙ first.before (off r) (grows a.start r k (omega (arith, at.1, it.1, l)))
              (omega (arith, rises s hay off v r p (omega (arith, l, it.1)) at.1, at.2)));
        });
        starts = ap off it.1 ∙ at.2;
        ends = it.2;
        from = omega (arith, from, it.1);
        forward = omega (arith, it.4, it.1);
        inside = it.3;
      }
