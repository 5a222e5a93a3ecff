-- What a call within bounds tells of its iteration, and a step budget that outlasts this.
use Rattle.sre_recipes.proofs.Terms.{◌≡◌, ◌≤◌, ◌<◌, ℕ, ◌+◌, ◌-◌, ◌*◌, true, Option, Some, None, List, [], ◌∷◌, ◌++◌}
use Rattle.sre_recipes.proofs.Terms.{refl, sym, subst, arith, add-mul, mul-le-mul_right, Tree, Asked, Match, subject_of}
use Rattle.sre_recipes.proofs.Terms.{found, asked_after, walk, most_matches, found-least, found-is, most_matches-falls}
use Rattle.sre_recipes.proofs.Terms.{Code, runs_of, first_of, Outlast, Spends, AllSpend, one_less, ◌/◌, SpentUpTo, Bool}
use Rattle.sre_recipes.proofs.Terms.{false, not, inl, inr, ap, append-nil, code_tree, words_of, hints_of, Whole, Bounds}
use Rattle.sre_recipes.proofs.Terms.{AreLeft, Followed, not-false, not-true, most_runs, OutlastWalk, false_from_ne_true}
use Rattle.std.proofs.Math.Nat.{mul-le-mul, div-mul-le_self}
use Rattle.std.proofs.lemmas.Nat.{le-div}
use Rattle.sre_model.specs.Prefixes.{behind_items}
use Rattle.sre_model.specs.TurnBounds.{turns_of, most_each, RunsWithin}
use Rattle.sre_engine.proofs.CountLaws.{once}
use Rattle.sre_engine.proofs.Spending.{never_used_up}
use Rattle.sre_recipes.proofs.Following.{first_step, left_all, left_on}

-- of a window that begins later a step costs no more
each_less : (a : Asked) (m : Match) → a.start ≤ m.end → most_each (asked_after a m) ≤ most_each a
each_less a m later =
    let below = div-mul-le_self (a.end - m.end) 8 in
    let eighths = le-div ((a.end - m.end) / 8) (a.end - a.start) 8 (omega arith) (omega (arith, below, later)) in
    omega (arith, eighths)

within_later : (a : Asked) (m : Match) (t : Tree) (most : ℕ) → a.start ≤ m.end → RunsWithin a t most
    → RunsWithin (asked_after a m) t most
within_later a m t most later within = record {
  each = λ n p inside.
      let steps = turns_of (subject_of a) (behind_items n t) p in
      let same : steps ≤ steps = omega arith in
      let less : steps * most_each (asked_after a m) ≤ steps * most_each a = mul-le-mul same (each_less a m later) in
      omega (arith, less, within.each n p inside);
}

-- behind a match fewer runs are left, by those at the starts up to the match
runs_fall : (a : Asked) (m : Match) → a.start ≤ m.start → m.start ≤ m.end → m.end ≤ a.end
    → most_matches (asked_after a m) < most_matches a
    → most_runs (asked_after a m) + (m.start + 1 - a.start) ≤ most_runs a
runs_fall a m from order inside fewer = omega (arith, from, order, inside, fewer)

-- what is left behind a match outlasts the walk from there
outlast_after : (a : Asked) (code : Code) (m : Match) (given left runs : ℕ) → a.start ≤ m.start → m.start ≤ m.end
    → m.end ≤ a.end → most_matches (asked_after a m) < most_matches a → SpentUpTo a code given left runs
    → runs ≤ 2 * (m.start + 1 - a.start) → OutlastWalk a code given → OutlastWalk (asked_after a m) code left
outlast_after a code m given left runs from order inside fewer spent few lasts =
    let most = lasts.most in
    let starts = m.start + 1 - a.start in
    let after = most_runs (asked_after a m) in
    let all = spent.each lasts.tree lasts.whole most lasts.within in
    let taken : runs * most ≤ 2 * starts * most = mul-le-mul_right most few in
    let fall = runs_fall a m from order inside fewer in
    let both : (2 * after + 2 * starts) * most ≤ 2 * most_runs a * most =
    mul-le-mul_right most (omega (arith, fall)) in
    record {
      tree = lasts.tree;
      whole = lasts.whole;
      most = most;
      within = within_later a m lasts.tree most (omega (arith, from, order)) lasts.within;
      more = omega (arith, all, taken, both, add-mul (2 * after) (2 * starts) most, lasts.more);
    }

-- and so of one match of an iteration
outlast_on : (M : Type 0) (a : Asked) (code : Code) (t : Tree) (m : Match) (given left : Option ℕ) → found a t ≡ Some m
    → Spends M a code (m.start + 1) m.end (Some true) given left → Outlast a code given
    → Outlast (asked_after a m) code left
outlast_on M a code t m None left is spends lasts = subst (Outlast (asked_after a m) code) (sym spends.1) tt
outlast_on M a code t m (Some given) None is spends lasts = absurd spends
outlast_on M a code t m (Some given) (Some left) is spends lasts =
    let inside = found-is a t m is in
    let few : runs_of spends.shown ≤ 2 * (m.start + 1 - a.start) =
    omega (arith, once a code (m.start + 1) m.end spends.shown spends.counts, spends.again) in
    outlast_after a code m given left (runs_of spends.shown) (found-least a t m is).from inside.order inside.end
    (most_matches-falls a t m is) spends.keeps.spent few lasts

-- so an iteration does not exceed a budget that outlasts it
pub never_exceeded : (M : Type 0) (a : Asked) (code : Code) (t : Tree) (most : Option ℕ) (taken rest : List Match)
    (given left : Option ℕ)
    → first_of most (walk a t) ≡ taken ++ rest → AllSpend M a code taken true given left → Outlast a code given → ⊥
never_exceeded M a code t most [] rest None left first spends lasts = absurd (cc (spends.0))
never_exceeded M a code t most [] rest (Some given) None first spends lasts = spends
never_exceeded M a code t most [] rest (Some given) (Some left) first spends lasts =
    let few : runs_of spends.shown ≤ 2 * most_runs a =
    omega (arith, once a code (a.end + 1) a.end spends.shown spends.counts, spends.again) in
    never_used_up a code lasts.tree given left (runs_of spends.shown) lasts.most (2 * most_runs a) lasts.whole
    lasts.within spends.keeps.spent few lasts.more (spends.keeps.used refl)
never_exceeded M a code t most (m ∷ ms) rest given left first spends lasts =
    let step = first_step most a t m (ms ++ rest) first in
    never_exceeded M (asked_after a m) code t (one_less most) ms rest spends.0 left step.1 spends.2
    (outlast_on M a code t m given spends.0 step.0 spends.1 lasts)

-- no search adds steps, so no iteration does
spends_left : (M : Type 0) (a : Asked) (code : Code) (to seen : ℕ) (told : Option Bool) (given left : Option ℕ)
    → Spends M a code to seen told given left → AreLeft given left
spends_left M a code to seen told None left spends = spends.1
spends_left M a code to seen told (Some given) None spends = absurd spends
spends_left M a code to seen told (Some given) (Some left) spends = spends.keeps.fewer

all_left : (M : Type 0) (a : Asked) (code : Code) (taken : List Match) (exceeded : Bool) (given left : Option ℕ)
    → AllSpend M a code taken exceeded given left → AreLeft given left
all_left M a code [] true given left spends = spends_left M a code (a.end + 1) a.end None given left spends
all_left M a code [] false given left (inl same) = subst (AreLeft given) (sym same) (left_all given)
all_left M a code [] false given left (inr spends) =
    spends_left M a code (a.end + 1) a.end (Some false) given left spends
all_left M a code (m ∷ ms) exceeded given left spends =
    left_on given spends.0 left (spends_left M a code (m.start + 1) m.end (Some true) given spends.0 spends.1)
    (all_left M (asked_after a m) code ms exceeded spends.0 left spends.2)

-- and one that exceeds the step limit leaves none
all_used : (M : Type 0) (a : Asked) (code : Code) (taken : List Match) (given left : Option ℕ)
    → AllSpend M a code taken true given left → left ≡ Some 0
all_used M a code [] None left spends = absurd (cc (spends.0))
all_used M a code [] (Some given) None spends = absurd spends
all_used M a code [] (Some given) (Some left) spends = ap Some (spends.keeps.used refl)
all_used M a code (m ∷ ms) given left spends = all_used M (asked_after a m) code ms spends.0 left spends.2

-- what is told of bounds: whether all was gathered, as it is unless the step limit was exceeded
pub record Tells (a : Asked) (code : Code) (steps : Option ℕ) (after : Bounds) (complete : Bool) : Type 0 where
  pub used : complete ≡ false → after.steps ≡ Some 0
  pub left : AreLeft steps after.steps
  pub lasts : Outlast a code steps → complete ≡ true
  pub unlimited : steps ≡ None → complete ≡ true

module _ {M : Type 0} {a : Asked} {code : Code} {most steps : Option ℕ} {after : Bounds}
    (followed : Followed M a code most steps after) where
  exceeds : after.limit_exceeded ≡ true → AllSpend M a code followed.taken true steps after.steps
  exceeds e = subst (λ (b : Bool). AllSpend M a code followed.taken b steps after.steps) e followed.spent

  within : Outlast a code steps → after.limit_exceeded ≡ false
  within lasts = false_from_ne_true after.limit_exceeded (λ e.
      let tree = code_tree (words_of code) (hints_of code) code.checked in
      let first = followed.first tree.0 tree.1 in
      never_exceeded M a code tree.0 most followed.taken first.0 steps after.steps first.1 (exceeds e) lasts)

  pub tells : Tells a code steps after (not after.limit_exceeded)
  tells = record {
    used = λ e. all_used M a code followed.taken steps after.steps (exceeds (not-false after.limit_exceeded e));
    left = all_left M a code followed.taken after.limit_exceeded steps after.steps followed.spent;
    lasts = λ lasts. ap not (within lasts);
    unlimited = λ none. ap not (within (subst (Outlast a code) (sym none) tt));
  }

  -- where it was not exceeded, all matches that are wanted were taken
  pub all_taken : (t : Tree) → Whole (words_of code) t → not after.limit_exceeded ≡ true
      → followed.taken ≡ first_of most (walk a t)
  all_taken t whole e =
      let first = followed.first t whole in
      rw (first.1, first.2 (not-true after.limit_exceeded e), append-nil)
