-- A configuration that failed is hopeless, and the machine may backtrack at once from an equivalent one.
-- The memo of failures, which stores hopeless configurations, rests on these laws.
use Rattle.sre_turns.proofs.Terms.{◌≡◌, ℕ, Bool, true, false, List, [], ◌∷◌, refl, sym, ◌∙◌, inl, inr, ap, true≢false}
use Rattle.sre_turns.proofs.Terms.{Tree, refers, WholeItems, SameStops, HasReference, Run, Runs, Waits, Alike, Hopeless}
use Rattle.sre_turns.proofs.Terms.{MarksServe, AcceptsByStop, first, Spot, Choice, Marks, Way, Fruitless, is_inside}
use Rattle.sre_model.specs.Found.{Asked, is_accepted}
use Rattle.sre_turns.proofs.semantics.FirstOutcomes.{none_passes, fruit_waits}
use Rattle.sre_turns.proofs.memoization.SameComes.{marked_come}

-- the words of a tree that has no reference have none
pub no_reference : (ws : List ℕ) (t : Tree) → WholeItems ws t → refers t ≡ false → HasReference ws → ⊥
no_reference ws t w e has = true≢false (sym (has t w) ∙ e)

-- what is asked of a whole match is told by where it stops
pub asked_by_stop : (a : Asked) (v w : Way) → v.stop ≡ w.stop → is_accepted a v ≡ is_accepted a w
asked_by_stop a v w e = rw e refl

-- outcomes with the same stops are fruitless alike
pub same_fruitless : (r : Run) → AcceptsByStop r → (inside : Bool) (xs ys : List Way) → SameStops xs ys
    → Fruitless r inside xs → Fruitless r inside ys
same_fruitless r told true [] [] h e = refl
same_fruitless r told true [] (y ∷ ys) h e = absurd h
same_fruitless r told true (x ∷ xs) [] h e = refl
same_fruitless r told true (x ∷ xs) (y ∷ ys) h e = absurd (cc)
same_fruitless r told false xs ys h e = none_passes r.accepts told xs ys h e

-- what came of a spot stops where it does of one that is alike, where the same marks serve both
served_come : (r : Run) (m : Marks) (x y : Spot) (os us : List Way) (n k : ℕ) → MarksServe r.words m x
    → MarksServe r.words m y → Alike r.words x y → Runs r.words r.subject x os n → Runs r.words r.subject y us k
    → SameStops os us
served_come r m x y os us n k (inl one) (inl other) h d e = (marked_come r.words r.subject m h one other d e).0
served_come r m x y os us n k (inr idle) other h d e = idle.onward r.subject y os us n k h d e
served_come r m x y os us n k (inl one) (inr idle) h d e = idle.back r.subject x os us n k h d e

-- a spot that was fruitless is hopeless where marks serve that serve it
pub hopeless_again : (r : Run) → AcceptsByStop r → (inside : Bool) (m : Marks) (x : Spot)
    → MarksServe r.words m x → (os : List Way) (n : ℕ) → Runs r.words r.subject x os n → Fruitless r inside os
    → Hopeless r inside m x
hopeless_again r told inside m x one os n d e = record {
  none = λ y us k h other d'. same_fruitless r told inside os us (served_come r m x y os us n k one other h d d') e;
}

-- where there is no outcome, nothing came
pub fruitless_none : (r : Run) (inside : Bool) → Fruitless r inside []
fruitless_none r true = refl
fruitless_none r false = refl

-- so what was fruitless may be left out
pub fruitless_waits : (r : Run) (cs : List Choice) (now : List Way) {all : List Way} {u k : ℕ}
    → Fruitless r (is_inside cs) now → Waits r cs u now all k → Waits r cs u [] all k
fruitless_waits r cs now fruitless =
    fruit_waits r cs now [] (ap (λ os. first os) (fruitless ∙ sym (fruitless_none r (is_inside cs))))
