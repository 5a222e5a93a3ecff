-- The match that is found is that of the least start, and lies in the range.
use Rattle.sre_model.proofs.Terms.{◌≡◌, ◌≤◌, ◌<◌, ◌+◌, ◌-◌, ℕ, zero, suc, List, [], ◌∷◌, true, Option, Some, None, refl}
use Rattle.sre_model.proofs.Terms.{sym, ap, ◌∙◌, subst, arith, ◌⊎◌, inl, inr, filter, Tree, no_marks, Way, ways, Asked}
use Rattle.sre_model.proofs.Terms.{Match, subject_of, is_accepted, first_accepted, at_start, found, cases_lt}
use Rattle.sre_model.proofs.Terms.{found_from, cases_Bool}
use Rattle.sre_model.proofs.Bounds.{EachBetween, ways-bounded}

-- the way that a match ends
abbrev pub way_of : Match → Way
way_of m = record { stop = m.end; marks = m.marks }

-- the match from s that a way ends
abbrev pub match_of : ℕ → Way → Match
match_of s w = record { start = s; end = w.stop; marks = w.marks }

-- the match of the first of some ways
abbrev pub match_of_first : ℕ → List Way → Option Match
match_of_first s [] = None
match_of_first s (w ∷ ws) = Some (match_of s w)

-- a match from s on
pub record IsFrom (a : Asked) (s : ℕ) (m : Match) : Type 0 where
  pub start : m.start ≡ s
  pub order : s ≤ m.end
  pub end : m.end ≤ a.end
  pub accepted : is_accepted a (way_of m) ≡ true

-- the match of the least start from s on
pub record IsLeast (a : Asked) (t : Tree) (s : ℕ) (m : Match) : Type 0 where
  pub from : s ≤ m.start
  pub to : m.start ≤ a.end
  pub here : at_start a t m.start ≡ Some m
  pub least : (r : ℕ) → s ≤ r → r < m.start → at_start a t r ≡ None

-- either there is none, or there is one
abbrev pub Either : {X : Type 0} → Option X → Type 0
Either {X = X} o = (o ≡ None) ⊎ ((x : X) × (o ≡ Some x))

pub either : {X : Type 0} (o : Option X) → Either o
either None = inl refl
either (Some x) = inr (x, refl)

-- the first accepted way is the first of the accepted ways
pub first_accepted-filter : (a : Asked) (s : ℕ) (ws : List Way)
    → first_accepted a s ws ≡ match_of_first s (filter (is_accepted a) ws)
first_accepted-filter a s [] = refl
first_accepted-filter a s (w ∷ ws) = grind (arith, first_accepted-filter a s ws)

first_accepted-is : (a : Asked) (s : ℕ) (m : Match) (ws : List Way) → EachBetween (subject_of a) s ws
    → first_accepted a s ws ≡ Some m → IsFrom a s m
first_accepted-is a s m [] b e = absurd (cc)
first_accepted-is a s m (w ∷ ws) b e = elim (cases_Bool (is_accepted a w)) [
  | inl y ↦
      let same : Some (match_of s w) ≡ Some m = rw y at e in
      let is : match_of s w ≡ m = cc in
      subst (IsFrom a s) is (record { start = refl; order = b.0.0; end = b.0.1; accepted = y })
  | inr n ↦ first_accepted-is a s m ws b.1 (rw n at e)
]

-- the match from s begins there, ends between s and the window's end, and is accepted
pub at_start-is : (a : Asked) (t : Tree) (s : ℕ) (m : Match) → s ≤ a.end → at_start a t s ≡ Some m → IsFrom a s m
at_start-is a t s m h e =
    first_accepted-is a s m (ways (subject_of a) t s no_marks) (ways-bounded (subject_of a) t s no_marks h) e

-- no match at s, and none later on
after_none : (a : Asked) (t : Tree) (s n r : ℕ) → at_start a t s ≡ None
    → ((r : ℕ) → s + 1 ≤ r → r < n → at_start a t r ≡ None) → s ≤ r → r < n → at_start a t r ≡ None
after_none a t s n r none later l k = elim (cases_lt s r) [
  | inl past ↦ later r (omega arith) k
  | inr here ↦ let is : s ≡ r = omega arith in subst (λ q. at_start a t q ≡ None) is none
]

-- what the search of n starts from s on tells
abbrev Tells : Asked → Tree → ℕ → ℕ → Option Match → Type 0
Tells a t n s None = (r : ℕ) → s ≤ r → r < s + n → at_start a t r ≡ None
Tells a t n s (Some m) = IsLeast a t s m

found_from-tells : (n : ℕ) (a : Asked) (t : Tree) (s : ℕ) → n ≤ a.end + 1 - s → Tells a t n s (found_from n a t s)
found_from-tells zero a t s h = λ r l k. absurd (omega arith)
found_from-tells (suc n) a t s h =
    by_match (at_start a t s) refl (found_from n a t (s + 1)) (found_from-tells n a t (s + 1) (omega arith))
  where
    by_match : (o : Option Match) → at_start a t s ≡ o → (x : Option Match) → Tells a t n (s + 1) x
        → Tells a t (suc n) s (elim o [ (Some m) ↦ Some m | None ↦ x ])
    by_match None none None later = λ r l k.
        after_none a t s (s + suc n) r none (λ q i j. later q i (omega arith)) l k
    by_match None none (Some m) later = record {
      from = omega (arith, later.from);
      to = later.to;
      here = later.here;
      least = λ r l k. after_none a t s m.start r none later.least l k;
    }
    by_match (Some m) some x later =
        let start : m.start ≡ s = (at_start-is a t s m (omega arith) some).start in
        record {
          from = omega (arith, start);
          to = omega (arith, start);
          here = subst (λ q. at_start a t q ≡ Some m) (sym start) some;
          least = λ r l k. absurd (omega (arith, start, l, k));
        }

found-tells : (a : Asked) (t : Tree) → Tells a t (a.end + 1 - a.start) a.start (found a t)
found-tells a t = found_from-tells (a.end + 1 - a.start) a t a.start (omega arith)

-- what is found is the match of the least start in the window
pub found-least : (a : Asked) (t : Tree) (m : Match) → found a t ≡ Some m → IsLeast a t a.start m
found-least a t m e = subst (Tells a t (a.end + 1 - a.start) a.start) e (found-tells a t)

-- where nothing is found no start in the window has a match
pub found-none : (a : Asked) (t : Tree) → found a t ≡ None → (s : ℕ) → a.start ≤ s → s ≤ a.end → at_start a t s ≡ None
found-none a t e s l k = subst (Tells a t (a.end + 1 - a.start) a.start) e (found-tells a t) s l (omega arith)

-- of two matches of the least start none comes before the other
not_before : (a : Asked) (t : Tree) (s : ℕ) (m x : Match) → IsLeast a t s m → IsLeast a t s x → m.start ≤ x.start
not_before a t s m x is other = elim (cases_lt x.start m.start) [
  | inl before ↦ let never : None ≡ Some x = sym (is.least x.start other.from before) ∙ other.here in absurd (cc)
  | inr order ↦ order
]

-- the match of the least start is what is found
pub least-found : (a : Asked) (t : Tree) (m : Match) → IsLeast a t a.start m → found a t ≡ Some m
least-found a t m is = elim (either (found a t)) [
  | inl none ↦
      let never : None ≡ Some m = sym (found-none a t none m.start is.from is.to) ∙ is.here in
      absurd (cc)
  | inr (x, some) ↦
      let other = found-least a t x some in
      let start : x.start ≡ m.start =
      omega (arith, not_before a t a.start m x is other, not_before a t a.start x m other is) in
      some ∙ (sym other.here ∙ (ap (at_start a t) start ∙ is.here))
]

-- where no start in the window has a match nothing is found
pub none-found : (a : Asked) (t : Tree) → ((s : ℕ) → a.start ≤ s → s ≤ a.end → at_start a t s ≡ None) → found a t ≡ None
none-found a t h = elim (either (found a t)) [
  | inl none ↦ none
  | inr (x, some) ↦
      let is = found-least a t x some in
      let e : Some x ≡ None = sym is.here ∙ h x.start is.from is.to in
      absurd (cc)
]

-- what is found begins and ends in the window, in this order, and is accepted
pub found-is : (a : Asked) (t : Tree) (m : Match) → found a t ≡ Some m → IsFrom a m.start m
found-is a t m e = let is = found-least a t m e in at_start-is a t m.start m is.to is.here
