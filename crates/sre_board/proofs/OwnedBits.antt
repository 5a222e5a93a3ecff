-- The bits of the account pay for at most what the tree's instructions cost: each belongs to an address, a counter
-- state, a side and a position.
-- That the step bound suffices (`enough` of sre_engine) rests on this.
use Rattle.sre_board.proofs.Terms.{◌≡◌, ℕ, ◌+◌, ◌-◌, ◌*◌, ◌<◌, ◌≤◌, inl, inr, Bool, true, false, cond, List, [], ◌∷◌}
use Rattle.sre_board.proofs.Terms.{length, Some, slice_get, refl, sym, ap, ◌∙◌, arith, AllByRecursion, sum_by}
use Rattle.sre_board.proofs.Terms.{same_from_place, same_Some, has_forked_region, Run, Frame, Attempt, Point}
use Rattle.sre_board.proofs.Terms.{place_under, Lies, repeats, slots, Counted, BitOf, IsOwned, RowLies, toll_at, charge}
use Rattle.sre_board.proofs.Terms.{IsIn, Apart, Kept, HasSlot, RowsStay, Laid, radix, digit, Row, LiesIn, positions_of}
use Rattle.std.proofs.lemmas.List.Sums.{sum_by-cons}
use Rattle.sre_model.specs.Remembered.{sides}
use Rattle.sre_model.specs.TreePrices.{cost_of}
use Rattle.sre_turns.proofs.bound.TreeCosts.{Distinct, whole_costs}
use Rattle.sre_board.proofs.CounterStates.{digit_below}
use Rattle.sre_board.proofs.Rows.{placed_below, within_lines}

-- a slot of some loops is below the number of their states
pub slot_below : (ws shapes : List ℕ) (p j i before slot : ℕ) (fs : List Frame) → HasSlot ws p shapes j i before fs slot
    → slot < (before + 1) * slots ws (repeats fs)
slot_below ws shapes p j i before slot [] h = omega (arith, h.1)
slot_below ws shapes p j i before slot (f ∷ fs) h =
    placed_below before (radix ws f.repeat) (digit ws p f) (slots ws (repeats fs)) slot (digit_below ws p f)
    (slot_below ws shapes p j (i + 1) (before * radix ws f.repeat + digit ws p f) slot fs h.2)

-- what is inside an atomic scope is so in a tree of two sides
pub side_below : (inside forked : Bool) → (inside ≡ true → forked ≡ true) → cond inside 1 0 < cond forked 2 1
side_below false false h = omega arith
side_below false true h = omega arith
side_below true true h = omega arith
side_below true false h = absurd (let e = h refl in cc)

module _ (r : Run) (pl : Counted r) (first : ℕ) where
  -- the bit of a configuration that lies in the tree's words pays for what the configuration costs
  abbrev pub owned_bit : (k : Kept) (a : Attempt) (b : ℕ) → (a.inside ≡ true → has_forked_region pl.tree ≡ true)
      → Lies r.words pl.tree pl.whole a.spot
      → ((i : ℕ) (row : Row) → slice_get k.rows i ≡ Some row → RowLies r pl first k row)
      → BitOf k r.words a b → IsOwned r pl first k b
  owned_bit k a b forked lies rows g =
      let e = g.entry in
      let x = a.spot in
      let for = (rows e.number e.row e.there).is_for in
      let below = slot_below r.words k.shapes x.position e.row.end e.row.shape 0 e.slot x.frames e.loops in
      let index : e.index ≡ (e.slot * 2 + cond a.inside 1 0) * positions_of r first + (x.position - e.row.first) =
      e.index_is ∙ ap (λ n. (e.slot * 2 + cond a.inside 1 0) * n + (x.position - e.row.first)) for.positions in
      record {
        number = e.number;
        row = e.row;
        slot = e.slot;
        side = cond a.inside 1 0;
        behind = x.position - e.row.first;
        spot = x;
        there = e.there;
        place_is = e.place;
        lies = lies;
        few = omega (arith, below);
        few_sides = side_below a.inside (has_forked_region pl.tree) forked;
        within = omega (arith, e.to, for.positions);
        is = omega (arith, g.number, e.at_is, e.bit_is, index);
      }

  -- rows stay where they are, and pay for the same
  pub owned_still : (old new : Kept) → RowsStay old new → (bs : List ℕ)
      (all : AllByRecursion (λ (b : ℕ). IsOwned r pl first old b) bs)
      → (still : AllByRecursion (λ (b : ℕ). IsOwned r pl first new b) bs)
      × (charge r pl first new bs still ≡ charge r pl first old bs all)
  owned_still old new stay [] all = (tt, refl)
  owned_still old new stay (b ∷ bs) all =
      let o = all.0 in
      let rest = owned_still old new stay bs all.1 in
      let here : IsOwned r pl first new b = record {
        number = o.number;
        row = o.row;
        slot = o.slot;
        side = o.side;
        behind = o.behind;
        spot = o.spot;
        place_is = o.place_is;
        lies = o.lies;
        there = stay.there o.number o.row o.there;
        few = o.few;
        few_sides = o.few_sides;
        within = o.within;
        is = o.is;
      } in
      ((here, rest.0), ap (λ n. toll_at r o.spot + n) rest.1)

  module _ (k : Kept) (laid : Laid k) where
    -- a bit that was taken in, with what it is the bit of
    record Bit : Type 0 where
      number : ℕ
      owned : IsOwned r pl first k number

    abbrev point : Bit → Point
    point x = x.owned.spot.point

    abbrev loops : Bit → List ℕ
    loops x = repeats x.owned.spot.frames

    -- the sides and positions of a slot
    abbrev lines : ℕ
    lines = sides pl.tree * positions_of r first

    abbrev line : Bit → ℕ
    line x = x.owned.side * positions_of r first + x.owned.behind

    -- which of the bits of its point it is
    abbrev at : Bit → ℕ
    at x = x.owned.slot * lines + line x

    next : {m n : ℕ} → m < n → m + 1 ≤ n
    next h = omega (arith, h)

    line_few : (x : Bit) → line x < lines
    line_few x =
        within_lines x.owned.side (sides pl.tree) (positions_of r first) x.owned.behind (next x.owned.few_sides)
        x.owned.within

    fits : (x : Bit) → at x < slots r.words (loops x) * lines
    fits x = within_lines x.owned.slot (slots r.words (loops x)) lines (line x) (next x.owned.few) (line_few x)

    abbrev Differ : List Bit → Type 0
    Differ xs = Distinct r.words r.subject.end point loops at lines fits xs

    -- these tell the bit
    one_bit : (x y : Bit) → point x ≡ point y → loops x ≡ loops y → at x ≡ at y → x.number ≡ y.number
    one_bit x y e f g =
        let o = x.owned in
        let q = y.owned in
        let place = same_Some _ _ (sym o.place_is ∙ ap (λ pt. place_under pt (loops x)) e
        ∙ ap (λ ks. place_under (point y) ks) f ∙ q.place_is) in
        let number = laid.alone o.number q.number o.row q.row o.there q.there place in
        let parts = same_from_place o.slot (line x) q.slot (line y) lines (line_few x) (line_few y) g in
        let side = same_from_place o.side o.behind q.side q.behind (positions_of r first) o.within q.within parts.1 in
        let row : o.row ≡ q.row = same_Some o.row q.row (sym o.there ∙ ap (λ i. slice_get k.rows i) number ∙ q.there) in
        o.is
        ∙ ap (λ (w : Row). w.base * 64 + ((o.slot * 2 + o.side) * positions_of r first + o.behind)) row
        ∙ ap (λ n. q.row.base * 64 + ((n * 2 + o.side) * positions_of r first + o.behind)) parts.0
        ∙ ap (λ n. q.row.base * 64 + ((q.slot * 2 + n) * positions_of r first + o.behind)) side.0
        ∙ ap (λ n. q.row.base * 64 + ((q.slot * 2 + q.side) * positions_of r first + n)) side.1
        ∙ sym q.is

    abbrev Owned : List ℕ → Type 0
    Owned bs = AllByRecursion (λ (b : ℕ). IsOwned r pl first k b) bs

    abbrev bits : (bs : List ℕ) → Owned bs → List Bit
    bits [] all = []
    bits (b ∷ bs) all = record { number = b; owned = all.0 } ∷ bits bs all.1

    bits_differ : (bs : List ℕ) (all : Owned bs) → Apart bs → Differ (bits bs all)
    bits_differ [] all apart = tt
    bits_differ (b ∷ bs) all apart = (others bs all.1 apart.0, bits_differ bs all.1 apart.1)
      where
        x : Bit
        x = record { number = b; owned = all.0 }

        others : (bs : List ℕ) (all : Owned bs) → (IsIn b bs → ⊥)
            → AllByRecursion (λ (y : Bit). point x ≡ point y → loops x ≡ loops y → at x ≡ at y → ⊥) (bits bs all)
        others [] all none = tt
        others (c ∷ bs) all none = (
          λ e f g. none (inl (one_bit x (record { number = c; owned = all.0 }) e f g)),
          others bs all.1 (λ h. none (inr h)),
        )

    bits_lie : (bs : List ℕ) (all : Owned bs)
        → AllByRecursion
        (λ (x : Bit). LiesIn r.words 0 (length r.words - 1) pl.tree pl.whole.0 [] (point x) (loops x)) (bits bs all)
    bits_lie [] all = tt
    bits_lie (b ∷ bs) all = (all.0.lies, bits_lie bs all.1)

    as_much : (bs : List ℕ) (all : Owned bs)
        → charge r pl first k bs all ≡ sum_by (λ (x : Bit). toll_at r x.owned.spot) (bits bs all)
    as_much [] all = refl
    as_much (b ∷ bs) all =
        let more = sum_by-cons (λ (x : Bit). toll_at r x.owned.spot) (record { number = b; owned = all.0 })
        (bits bs all.1) in
        omega (arith, as_much bs all.1, more)

    -- so they pay for no more than the tree's instructions cost
    pub few_charged : (bs : List ℕ) (all : Owned bs) → Apart bs
        → charge r pl first k bs all ≤ cost_of r.subject.end 1 pl.tree 2 * lines
    few_charged bs all apart =
        let few = (whole_costs r.words r.subject.end point loops at lines fits pl.tree pl.whole).few (bits bs all)
        (bits_lie bs all) (bits_differ bs all apart) in
        omega (arith, as_much bs all, few)
