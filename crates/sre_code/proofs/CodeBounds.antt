-- The numbers computed for a code are those of its tree.
use Rattle.sre_code.proofs.Terms.{◌≡◌, ℕ, List, Option, Some, None, IfSome, sym, subst, Tree, WholeItems, Whole}
use Rattle.sre_code.proofs.Terms.{behind_block, ◌+◌, ◌-◌, ◌*◌, ◌/◌, ◌^◌, ◌≤◌, false, min, max, length, refl, ap, ◌∙◌}
use Rattle.sre_code.proofs.Terms.{arith, most_slots, cost_of, most_steps, refers, CountedTold, room_by, cost_at}
use Rattle.sre_code.proofs.Terms.{IsPrice, AreHeld, TreePriced, Prices, backs, longest_lookbehind}
use Rattle.sre_code.specs.MostSlots.{AreMostSlots, HasTooManySlots, SlotsTold}
use Rattle.sre_model.specs.Found.{Asked}
use Rattle.sre_model.specs.Remembered.{kept_positions, words_at_place, IsRemembered, sides, step_bound}
use Rattle.sre_model.proofs.WiderWindows.{IsInside, remembered_inside, bound_inside}
use Rattle.sre_code.specs.StepBounds.{IsWindow, IsWholeText, IsStepBound, HasNoStepBound, most_nested}
use Rattle.sre_code.specs.Bounds.{IsCounted, BoundTold, NumberBy, AreWhole, bound_by, bound_of}
use Rattle.sre_code.specs.declared.code.bounds.Counted.{Counted}

-- The counter states computed for a code are those of its tree.

-- what is told of each tree, by whether a number is
pub slots_some : (ws items : List ℕ) (r : Option ℕ) → items ≡ behind_block ws
    → ((t : Tree) → WholeItems items t → SlotsTold t r) → IfSome r (λ n. (t : Tree) → Whole ws t → AreMostSlots n t)
slots_some ws items (Some n) same each = λ t w. each t (subst (λ (is : List ℕ). WholeItems is t) (sym same) w.1)
slots_some ws items None same each = tt

pub slots_none : (ws items : List ℕ) (r : Option ℕ) → items ≡ behind_block ws
    → ((t : Tree) → WholeItems items t → SlotsTold t r) → r ≡ None → (t : Tree) → Whole ws t → HasTooManySlots t
slots_none ws items r same each is t w =
    subst (SlotsTold t) is (each t (subst (λ (is : List ℕ). WholeItems is t) (sym same) w.1))

-- The number computed for a code is the one specified for its tree.

-- the bound as it is written, of positions from start to end
abbrev written : Tree → ℕ → ℕ → ℕ
written t start end =
    (end + 1 - (start - backs t))
    * (32 + (1 + most_steps t + cost_of end 1 t 2 * sides t) * (1 + min (longest_lookbehind t) end / 8))

-- and for a whole text
abbrev of_text : Tree → ℕ → ℕ
of_text t n = bound_by (n + 1) (most_steps t) (cost_of n 1 t 2 * sides t) (min (longest_lookbehind t) n)

from_start : (t : Tree) (n : ℕ) → written t 0 n ≡ of_text t n
from_start t n =
    let all : n + 1 - (0 - backs t) ≡ n + 1 = omega arith in
    ap (λ f. f * (32 + (1 + most_steps t + cost_of n 1 t 2 * sides t) * (1 + min (longest_lookbehind t) n / 8))) all

-- what is computed of prices is the bound of their tree
by_prices : (t : Tree) (n : ℕ) (x : Prices) → IsPrice n t x.all → most_steps t ≡ max (x.since + 2) x.most
    → bound_of x (sides t) (min (longest_lookbehind t) n) (n + 1) ≡ of_text t n
by_prices t n x is most =
    let cost : cost_of n 1 t 2 ≡ cost_at x.all 2 + x.all.apart = omega (arith, is.cost 1 2) in
    ap (λ m. bound_by (n + 1) m ((cost_at x.all 2 + x.all.apart) * sides t) (min (longest_lookbehind t) n)) (sym most)
    ∙ ap (λ c. bound_by (n + 1) (most_steps t) (c * sides t) (min (longest_lookbehind t) n)) (sym cost)

module _ (places : ℕ) (t : Tree) (n : ℕ) where
  on_whole : (a : Asked) → IsWholeText n a → step_bound t a ≡ of_text t n
  on_whole a w =
      ap (λ i. written t i a.end) w.start ∙ ap (λ j. written t 0 j) w.end ∙ from_start t n

  room_on_whole : (a : Asked) → IsWholeText n a → places * words_at_place t a ≡ room_by places (n + 1) (most_slots t)
  room_on_whole a w =
      let all : kept_positions t a ≡ n + 1 = omega (arith, w.start, w.end) in
      ap (λ f. places * (most_slots t * 2 * f / 64 + 1)) all

  -- the whole text that a window stands in
  abbrev around : Asked → Asked
  around a = record a { start = 0; end = n }

  inside : (a : Asked) → IsWindow n a → IsInside a (around a)
  inside a w = record { order = w.order; from = omega arith; to = w.within }

  whole : (a : Asked) → IsWholeText n (around a)
  whole a = record { start = refl; end = refl }

  whole_on_whole : (a : Asked) → IsWholeText n a → words_at_place t a ≡ most_slots t * 2 * (n + 1) / 64 + 1
  whole_on_whole a w =
      let all : kept_positions t a ≡ n + 1 = omega (arith, w.start, w.end) in
      ap (λ f. most_slots t * 2 * f / 64 + 1) all

  enough_for : (steps : ℕ) → IsCounted t → room_by places (n + 1) (most_slots t) ≤ 2 ^ 30
      → AreWhole (n + 1) (most_slots t) → steps ≡ of_text t n + 1 → IsStepBound places t n steps
  enough_for steps counted room fits is = record {
    remembered = λ a w. remembered_inside places t a (around a) (inside a w) (kept a);
    more = λ a w. omega (arith, bound_inside t a (around a) (inside a w), on_whole (around a) (whole a), is);
    least = λ a w. omega (arith, on_whole a w, is);
  }
    where
      kept : (a : Asked) → IsRemembered places t (around a)
      kept a = record {
        unmarked = counted.unmarked;
        no_reference = counted.no_reference;
        slots = counted.few;
        whole = λ many. omega (arith, whole_on_whole (around a) (whole a), fits many);
        room = omega (arith, room_on_whole (around a) (whole a), room);
        order = omega arith;
      }

  number_told : (r : Option ℕ) → IsCounted t → NumberBy places (most_slots t) (of_text t n) n r → BoundTold places t n r
  number_told (Some steps) counted by = enough_for steps counted by.0 by.1 by.2
  number_told None counted by = record {
    none = λ a w kept nested.
        omega (
          arith,
          on_whole a w,
          by (omega (arith, room_on_whole a w, kept.room))
              (λ many. omega (arith, whole_on_whole a w, kept.whole many)),
        );
  }

pub bound_told : (ws : List ℕ) (n longest : ℕ) (c : Counted) (p : Prices) (r : Option ℕ) (t : Tree)
    → CountedTold t (Some c) → TreePriced n most_nested t (Some p)
    → ((x : Prices) → AreHeld x p → NumberBy (length ws) c.slots (bound_of x c.sides (min longest n) (n + 1)) n r)
    → (refers t ≡ false → longest ≡ longest_lookbehind t) → BoundTold (length ws) t n r
bound_told ws n longest c p r t told priced number counted =
    let bound = by_prices t n priced.0 priced.1 priced.2 in
    number_told (length ws) t n r told.0
    (rw (told.1, told.2, counted told.0.no_reference, bound) at (number priced.0 priced.3))

-- what is told of each tree, by whether a number is
pub enough_some : (places n : ℕ) (ws : List ℕ) (r : Option ℕ) → ((t : Tree) → Whole ws t → BoundTold places t n r)
    → IfSome r (λ steps. (t : Tree) → Whole ws t → IsStepBound places t n steps)
enough_some places n ws (Some turns) each = each
enough_some places n ws None each = tt

pub enough_none : (places n : ℕ) (ws : List ℕ) (r : Option ℕ) → ((t : Tree) → Whole ws t → BoundTold places t n r)
    → r ≡ None → (t : Tree) → Whole ws t → HasNoStepBound places t n
enough_none places n ws r each is t w = subst (BoundTold places t n) is (each t w)

-- what is told of the words behind a block is told of the whole
pub behind_told : (ws items : List ℕ) (n longest : ℕ) (r : Option ℕ) → items ≡ behind_block ws
    → ((t : Tree) → WholeItems items t → (refers t ≡ false → longest ≡ longest_lookbehind t)
    → BoundTold (length items) t n r)
    → ((t : Tree) → Whole ws t → refers t ≡ false → longest ≡ longest_lookbehind t)
    → (t : Tree) → Whole ws t → BoundTold (length (behind_block ws)) t n r
behind_told ws items n longest r same told counted t w =
    subst (λ (is : List ℕ). BoundTold (length is) t n r) same
    (told t (subst (λ (is : List ℕ). WholeItems is t) (sym same) w.1) (counted t w))
