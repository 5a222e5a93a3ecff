-- An iteration is the match that is found, and the iteration after it; it has a bound, and goes forward.
use Rattle.sre_model.proofs.Terms.{◌≡◌, ◌≤◌, ◌<◌, ◌+◌, ◌-◌, ◌*◌, ℕ, zero, suc, [], ◌∷◌, length, Bool, true, not, ◌||◌}
use Rattle.sre_model.proofs.Terms.{cond, nat_eq, Some, None, refl, sym, ap, ◌∙◌, arith, inl, inr, and_parts, nat_tests}
use Rattle.sre_model.proofs.Terms.{Tree, Asked, Match, found, asked_after, walk, most_matches, AreInOrder}
use Rattle.sre_model.specs.Found.{walk_of}
use Rattle.sre_model.proofs.FoundLaws.{either, found-least, found-is}

-- after a match that is accepted fewer matches can come: an empty one must not come again at its place
fewer : (start end from to : ℕ) (advance : Bool) → start ≤ from → from ≤ to → to ≤ end
    → (not advance || not (nat_eq to start)) ≡ true
    → 2 * (end - to) + cond (nat_eq to from) 0 1 < 2 * (end - start) + cond advance 0 1
fewer start end from to advance l k h e = grind (arith, nat_tests)

-- the bound on the matches to come falls at each match
pub most_matches-falls : (a : Asked) (t : Tree) (m : Match) → found a t ≡ Some m
    → most_matches (asked_after a m) < most_matches a
most_matches-falls a t m e =
    let is = found-is a t m e in
    let advances = (and_parts (not a.match_all || nat_eq m.end a.end) (not a.must_advance || not (nat_eq m.end a.start))
    is.accepted).1 in
    fewer a.start a.end m.start m.end a.must_advance (found-least a t m e).from is.order is.end advances

-- where nothing can be found any more, nothing is
none-left : (a : Asked) (t : Tree) → most_matches a ≡ 0 → found a t ≡ None
none-left a t h = elim (either (found a t)) [
  | inl none ↦ none
  | inr (x, some) ↦ absurd (omega (arith, most_matches-falls a t x some))
]

-- what a walk of at most n more matches gives
walk_of-none : (n : ℕ) (a : Asked) (t : Tree) → found a t ≡ None → walk_of n a t ≡ []
walk_of-none zero a t e = refl
walk_of-none (suc n) a t e = rw (e, walk_of)

walk_of-some : (n : ℕ) (a : Asked) (t : Tree) (m : Match) → found a t ≡ Some m
    → walk_of (suc n) a t ≡ m ∷ walk_of n (asked_after a m) t
walk_of-some n a t m e = rw (e, walk_of)

-- more steps than the bound change nothing
walk_of-steps : (n k : ℕ) (a : Asked) (t : Tree) → most_matches a ≤ n → most_matches a ≤ k
    → walk_of n a t ≡ walk_of k a t
walk_of-steps zero k a t h l = sym (walk_of-none k a t (none-left a t (omega arith)))
walk_of-steps (suc n) zero a t h l = walk_of-none (suc n) a t (none-left a t (omega arith))
walk_of-steps (suc n) (suc k) a t h l = elim (either (found a t)) [
  | inl none ↦ walk_of-none (suc n) a t none ∙ sym (walk_of-none (suc k) a t none)
  | inr (m, some) ↦
      let less = most_matches-falls a t m some in
      let later = walk_of-steps n k (asked_after a m) t (omega arith) (omega arith) in
      walk_of-some n a t m some ∙ (ap (λ l. m ∷ l) later ∙ sym (walk_of-some k a t m some))
]

-- the walk ends where nothing is found
pub walk-end : (a : Asked) (t : Tree) → found a t ≡ None → walk a t ≡ []
walk-end a t e = walk_of-none (2 * (a.end - a.start) + 1) a t e

-- else it is that match, and the walk from its end on
pub walk-next : (a : Asked) (t : Tree) (m : Match) → found a t ≡ Some m → walk a t ≡ m ∷ walk (asked_after a m) t
walk-next a t m e =
    let steps : ℕ = 2 * (a.end - a.start) in
    let after : ℕ = 2 * (a.end - m.end) + 1 in
    let some : steps + 1 ≡ suc steps = omega arith in
    let less = most_matches-falls a t m e in
    let enough : most_matches (asked_after a m) ≤ steps = grind arith in
    let enough_after : most_matches (asked_after a m) ≤ after = grind arith in
    ap (λ n. walk_of n a t) some
    ∙ (walk_of-some steps a t m e ∙ ap (λ l. m ∷ l) (walk_of-steps steps after (asked_after a m) t enough enough_after))

walk_of-bound : (n : ℕ) (a : Asked) (t : Tree) → length (walk_of n a t) ≤ most_matches a
walk_of-bound zero a t = omega arith
walk_of-bound (suc n) a t = elim (either (found a t)) [
  | inl none ↦ rw (walk_of-none (suc n) a t none) (omega arith)
  | inr (m, some) ↦
      let later = walk_of-bound n (asked_after a m) t in
      rw (walk_of-some n a t m some) (omega (arith, later, most_matches-falls a t m some))
]

-- a walk over n characters has at most 2n + 1 matches, and 2n where it must advance at first
pub walk-bound : (a : Asked) (t : Tree) → length (walk a t) ≤ most_matches a
walk-bound a t = walk_of-bound (2 * (a.end - a.start) + 1) a t

walk_of-in_order : (n : ℕ) (a : Asked) (t : Tree) → AreInOrder a.start (walk_of n a t)
walk_of-in_order zero a t = tt
walk_of-in_order (suc n) a t = elim (either (found a t)) [
  | inl none ↦ rw (walk_of-none (suc n) a t none) tt
  | inr (m, some) ↦
      rw (walk_of-some n a t m some)
      ((found-least a t m some).from, (found-is a t m some).order, walk_of-in_order n (asked_after a m) t)
]

-- each match of a walk starts no earlier than the former's end
pub walk-in_order : (a : Asked) (t : Tree) → AreInOrder a.start (walk a t)
walk-in_order a t = walk_of-in_order (2 * (a.end - a.start) + 1) a t
