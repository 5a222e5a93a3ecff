-- Rows of bits: each one's number is stored at its address, a configuration has a bit where a row exists for it, and
-- when a row is added, the others stay.
use Rattle.sre_board.proofs.Terms.{◌≡◌, ◌≢◌, ℕ, List, [], ◌∷◌, ◌++◌, length, cond, Bool, true, false, Some, slice_get}
use Rattle.sre_board.proofs.Terms.{sym, ap, ◌∙◌, inl, inr, Kept, kept_of, HasNoRow, Row, Numbered, suc, ◌<◌, map, refl}
use Rattle.sre_board.proofs.Terms.{arith, AllByRecursion, eqb_tells, Laid, length-map, ◌+◌, ◌-◌, ◌*◌, ◌/◌, ◌%◌, ◌≤◌}
use Rattle.sre_board.proofs.Terms.{subst, Option, None, mul_assoc, mul-le-mul_right, Frame, placed_from, Spot, repeats}
use Rattle.sre_board.proofs.Terms.{slots, place_of, is_again, IsPassed, digit, radix, HasSlot, HasShape, HasBit, RowFor}
use Rattle.sre_board.proofs.Terms.{WordsThere, BegunBy, AllBegunBy, Passed, ◌^◌, Result, Ok, Err, is_ok, IfOk}
use Rattle.sre_board.proofs.Terms.{append-nil, place_under, Point, RowsStay, Capacity, HasRow, NewRow, OneRowMore}
use Rattle.sre_board.proofs.Terms.{Roomy, most_words}
use Rattle.sre_board.proofs.CounterStates.{got_more, got_still, got_next, one_if, one_if_few, digit_below, shape_still}
use Rattle.sre_board.proofs.CounterStates.{some_slots}
use Rattle.std.specs.List.{list_any, IsDistinct}
use Rattle.std.proofs.Math.Dec.{eqb}
use Rattle.std.proofs.lemmas.Map.Keys.{IsDistinct-cons}
use Rattle.std.proofs.lemmas.Map.Steps.{length-le_from_distinct_below}

-- the number of a place that has no row is another
pub numbered_set : (k : Kept) (rs : List Row) (ss bs ns ms : List ℕ) (place : ℕ) → kept_of rs ss bs ≡ k → Numbered rs ns
    → HasNoRow k place → ((i n : ℕ) → i ≢ place → slice_get ns i ≡ Some n → slice_get ms i ≡ Some n) → Numbered rs ms
numbered_set k rs ss bs ns ms place is numbered none others = λ n r e.
    others r.place n (λ s. none n r (ap (λ (y : Kept). slice_get y.rows n) (sym is) ∙ e) s) (numbered n r e)

-- and then the row of that place is appended, or none is
pub numbered_row : (k : Kept) (rs new : List Row) (ss bs ns ms : List ℕ) (row : Row) (ok : Bool) → kept_of rs ss bs ≡ k
    → Numbered rs ns → HasNoRow k row.place
    → ((i n : ℕ) → i ≢ row.place → slice_get ns i ≡ Some n → slice_get ms i ≡ Some n)
    → slice_get ms row.place ≡ Some (length rs) → new ≡ cond ok (rs ++ row ∷ []) rs → Numbered new ms
numbered_row k rs new ss bs ns ms row ok is numbered none others here e = rw e (by_ok ok)
  where
    was : Numbered rs ms
    was = numbered_set k rs ss bs ns ms row.place is numbered none others

    by_ok : (b : Bool) → Numbered (cond b (rs ++ row ∷ []) rs) ms
    by_ok false = was
    by_ok true = λ n r at. elim (got_more rs row n r at) [
      | inl l ↦ was n r l
      | inr g ↦ ap (λ (x : Row). slice_get ms x.place) (sym g.1) ∙ here ∙ ap (λ m. Some m) (sym g.0)
    ]

-- a place whose number is not that of a row of it has none
pub no_row_at : (k : Kept) (rs : List Row) (ss bs ns : List ℕ) (place : ℕ) → kept_of rs ss bs ≡ k → Numbered rs ns
    → ((n : ℕ) (r : Row) → slice_get ns place ≡ Some n → slice_get rs n ≡ Some r → r.place ≡ place → ⊥)
    → HasNoRow k place
no_row_at k rs ss bs ns place is numbered none = λ n r e p.
    let there : slice_get rs n ≡ Some r = ap (λ (y : Kept). slice_get y.rows n) is ∙ e in
    none n r (ap (λ i. slice_get ns i) (sym p) ∙ numbered n r there) there p

abbrev places : List Row → List ℕ
places rs = map (λ (r : Row). r.place) rs

-- the row of one of the places
row_of : (rs : List Row) (v : ℕ) → list_any (eqb v) (places rs) ≡ true
    → (n : ℕ) × (r : Row) × (slice_get rs n ≡ Some r) × (r.place ≡ v)
row_of [] v h = absurd (cc)
row_of (r ∷ rs) v h = elim (eqb_tells v r.place) [
  | inl e ↦ (0, r, refl, sym e.1)
  | inr e ↦ let below = row_of rs v (rw e.0 at h) in (suc below.0, below.1, below.2, below.3)
]

-- a number that is not in a list differs from each
others : (x : ℕ) (xs : List ℕ) → (list_any (eqb x) xs ≡ true → ⊥) → AllByRecursion (λ y. eqb x y ≡ false) xs
others x [] none = tt
others x (y ∷ ys) none = elim (eqb_tells x y) [
  | inl e ↦ absurd (none (rw e.0 refl))
  | inr e ↦ (e.0, others x ys (λ h. none (rw e.0 h)))
]

-- rows of places of their own have distinct places
distinct : (rs : List Row) → ((m n : ℕ) (r s : Row) → slice_get rs m ≡ Some r → slice_get rs n ≡ Some s
    → r.place ≡ s.place → m ≡ n) → IsDistinct eqb (places rs)
unfolding IsDistinct
distinct [] alone = tt
distinct (r ∷ rs) alone = (
  others r.place (places rs) (λ h.
      let s = row_of rs r.place h in absurd (omega (arith, alone 0 (suc s.0) r s.1 refl s.2 (sym s.3)))),
  distinct rs (λ m n a b ea eb e. omega (arith, alone (suc m) (suc n) a b ea eb e)),
)

pub fewer_rows : (k : Kept) (n : ℕ) → Laid k → ((i : ℕ) (r : Row) → slice_get k.rows i ≡ Some r → r.place < n)
    → (place : ℕ) → place < n → HasNoRow k place → length k.rows < n
fewer_rows k n laid below place h none =
    let few = length-le_from_distinct_below (place ∷ places k.rows) n apart small in
    omega (arith, few, length-map k.rows (λ (r : Row). r.place))
  where
    apart : IsDistinct eqb (place ∷ places k.rows)
    apart =
        IsDistinct-cons eqb place (places k.rows)
        (others place (places k.rows) (λ m. let r = row_of k.rows place m in none r.0 r.1 r.2 r.3))
        (distinct k.rows laid.alone)

    small : (q : ℕ) → list_any (eqb q) (place ∷ places k.rows) ≡ true → q < n
    small q m = elim (eqb_tells q place) [
      | inl e ↦ omega (arith, e.1, h)
      | inr e ↦ let r = row_of k.rows q (rw e.0 at m) in omega (arith, below r.0 r.1 r.2, r.3)
    ]

-- a loop that was passed has a digit
is_passed : (l : Option ℕ) (p : ℕ) → BegunBy l p → IsPassed l p
is_passed None p h = tt
is_passed (Some last) p h = h

-- a digit below its radix
pub placed_below : (a r d s n : ℕ) → d < r → n < (a * r + d + 1) * s → n < (a + 1) * (r * s)
placed_below a r d s n l h =
    let most : (a * r + d + 1) * s ≤ (a + 1) * r * s =
    mul-le-mul_right s (one_more a r d l) in
    let e : (a + 1) * r * s ≡ (a + 1) * (r * s) = mul_assoc (a + 1) r s in
    omega (arith, most, e, h)
  where
    one_more : (a r d : ℕ) → d < r → a * r + d + 1 ≤ (a + 1) * r
    one_more a r d l = grind arith

-- loops that were passed have a slot of a shape of their places
pub slot_of_shape : (ws shapes : List ℕ) (p j i before : ℕ) (fs : List Frame) → HasShape shapes j i (repeats fs)
    → AllBegunBy p fs → (n : ℕ) × HasSlot ws p shapes j i before fs n × (n < (before + 1) * slots ws (repeats fs))
slot_of_shape ws shapes p j i before [] h b = (before, (h, refl), omega arith)
slot_of_shape ws shapes p j i before (f ∷ fs) h b =
    let rest = slot_of_shape ws shapes p j (i + 1) (before * radix ws f.repeat + digit ws p f) fs h.1 b.1 in (
      rest.0,
      (h.0, is_passed f.last p b.0, rest.1),
      placed_below before (radix ws f.repeat) (digit ws p f) (slots ws (repeats fs)) rest.0 (digit_below ws p f) rest.2,
    )

-- a place of a line and a number below its length lie within so many lines
pub within_lines : (line all n i : ℕ) → line + 1 ≤ all → i < n → line * n + i < all * n
within_lines line all n i h l = omega (arith, mul-le-mul_right n h, one_more line n)
  where
    one_more : (a n : ℕ) → (a + 1) * n ≡ a * n + n
    one_more a n = grind arith

pub bit_there : (k : Kept) (ws : List ℕ) (first end : ℕ) (js : List ℕ) (inside : Bool) (x : Spot) (n : ℕ) (row : Row)
    → place_of x ≡ Some row.place → row.again ≡ is_again x.point → repeats x.frames ≡ js → Passed x
    → first ≤ x.position → x.position ≤ end
    → WordsThere ws js → slice_get k.rows n ≡ Some row → RowFor k ws first end js row → HasBit k ws inside x
bit_there k ws first end js inside x n row place_is kind loops passed from to words there for =
    let begun : AllBegunBy x.position x.frames =
    subst (λ (q : ℕ). AllBegunBy q x.frames)
    (placed_from x.point (repeats x.frames) row.place x.position place_is) passed in
    let shape : HasShape k.shapes row.end row.shape (repeats x.frames) =
    subst (λ (qs : List ℕ). HasShape k.shapes row.end row.shape qs) (sym loops) for.shape in
    let s = slot_of_shape ws k.shapes x.position row.end row.shape 0 x.frames shape begun in
    let few : s.0 < slots ws js =
    subst (λ (qs : List ℕ). s.0 < slots ws qs) loops (omega (arith, s.2)) in
    let line : ℕ = s.0 * 2 + one_if inside in
    let index : ℕ = line * row.positions + (x.position - row.first) in
    let most : line + 1 ≤ slots ws js * 2 = omega (arith, few, one_if_few inside) in
    let place : x.position - row.first < row.positions = omega (arith, for.first_is, for.positions, from, to) in
    let all : index < slots ws js * 2 * row.positions =
    within_lines line (slots ws js * 2) row.positions (x.position - row.first) most place in
    record {
      at = row.base + index / 64;
      bit = index % 64;
      entry = record {
        number = n;
        row = row;
        slot = s.0;
        index = index;
        there = there;
        place = place_is;
        kind = kind;
        read = subst (λ (qs : List ℕ). WordsThere ws qs) (sym loops) words;
        loops = s.1;
        few = omega (arith, few, for.few);
        from = omega (arith, for.first_is, from);
        to = place;
        index_is = refl;
        within = omega (arith, all, for.enough);
        at_is = refl;
        bit_is = refl;
      };
    }

row_for : (old new : Kept) (more ws : List ℕ) (first end : ℕ) (js : List ℕ) (row : Row)
    → new.shapes ≡ old.shapes ++ more → RowFor old ws first end js row → RowFor new ws first end js row
row_for old new more ws first end js row e for = record {
  first_is = for.first_is;
  positions = for.positions;
  shape =
      subst (λ (ss : List ℕ). HasShape ss row.end row.shape js) (sym e)
      (shape_still old.shapes more row.end row.shape js for.shape);
  enough = for.enough;
  few = for.few;
}

-- rows and shapes behind those there were
module _ (old new : Kept) (rs : List Row) (more : List ℕ) (er : new.rows ≡ old.rows ++ rs)
    (es : new.shapes ≡ old.shapes ++ more) where
  pub rows_stay : RowsStay old new
  rows_stay = record {
    there = λ n row e. ap (λ (xs : List Row). slice_get xs n) er ∙ got_still old.rows rs n row e;
    still = λ ws first end js row for. row_for old new more ws first end js row es for;
  }

-- no row is new
pub no_row : (ws : List ℕ) (first end : ℕ) (pt : Point) (js : List ℕ) (old new : Kept) (more : List ℕ)
    → new.rows ≡ old.rows → new.shapes ≡ old.shapes ++ more → NewRow ws first end pt js old new
no_row ws first end pt js old new more er es = record {
  stay = rows_stay old new [] more (er ∙ sym (append-nil old.rows)) es;
  rows = λ n row e. inl (ap (λ (xs : List Row). slice_get xs n) (sym er) ∙ e);
}

-- the rows of a list to which one is appended, or not
pub new_row : (ws : List ℕ) (first end : ℕ) (pt : Point) (js : List ℕ) (old mid new : Kept) (row : Row) (more : List ℕ)
    (ok : Bool) → mid.rows ≡ old.rows → mid.shapes ≡ old.shapes ++ more
    → new.rows ≡ cond ok (mid.rows ++ row ∷ []) mid.rows → new.shapes ≡ mid.shapes
    → place_under pt js ≡ Some row.place → row.again ≡ is_again pt
    → (Capacity ws first end row.place js old → RowFor mid ws first end js row) → NewRow ws first end pt js old new
new_row ws first end pt js old mid new row more true em es er et ep ek for =
    let rows : new.rows ≡ old.rows ++ row ∷ [] = er ∙ ap (λ (xs : List Row). xs ++ row ∷ []) em in
    record {
      stay = rows_stay old new (row ∷ []) more rows (et ∙ es);
      rows = λ n r e. elim (got_more old.rows row n r (ap (λ (xs : List Row). slice_get xs n) (sym rows) ∙ e)) [
        | inl l ↦ inl l
        | inr g ↦
            let is = subst (λ (x : Row). (place_under pt js ≡ Some x.place) × (x.again ≡ is_again pt)
            × (Capacity ws first end x.place js old → RowFor new ws first end js x)) g.1
            (ep, ek, λ room. row_for mid new [] ws first end js row (et ∙ sym (append-nil mid.shapes)) (for room)) in
            inr (g.0, is.0, is.1, is.2)
      ];
    }
new_row ws first end pt js old mid new row more false em es er et ep ek for =
    no_row ws first end pt js old new more (er ∙ em) (et ∙ es)

-- the place has the row that was appended, if it was
pub there_if_ok : {T E : Type 0} (r : Result T E) (needs : Type 0) (mid new : Kept) (row : Row) (place : ℕ)
    → new.rows ≡ cond (is_ok r) (mid.rows ++ row ∷ []) mid.rows → row.place ≡ place
    → IfOk r (λ _. needs → HasRow new place)
there_if_ok (Ok v) needs mid new row place er ep = λ _. record {
  number = length mid.rows;
  row = row;
  there = ap (λ (xs : List Row). slice_get xs (length mid.rows)) er ∙ got_next mid.rows row [];
  place_is = ep;
}
there_if_ok (Err v) needs mid new row place er ep = tt

-- a row that was made with enough room is for these positions and loops
pub made_for : (ws : List ℕ) (first end place : ℕ) (js : List ℕ) (old mid : Kept) (row : Row) (n taken shape : ℕ)
    → row.first ≡ first → row.end ≡ length mid.shapes → row.shape ≡ shape
    → (1 ≤ n → HasShape mid.shapes (length mid.shapes) shape js)
    → (WordsThere ws js → slots ws js ≤ 2 ^ 24 → n ≡ slots ws js)
    → taken ≡ length old.bits
    → (1 ≤ n → first ≤ end → most_words n first end ≤ 2 ^ 30 → taken + most_words n first end ≤ 2 ^ 32
    → (4096 < n → most_words n first end ≤ 2 ^ 24)
    → (row.positions ≡ end + 1 - first) × (n * 2 * row.positions ≤ 64 * row.length))
    → Capacity ws first end place js old → RowFor mid ws first end js row
made_for ws first end place js old mid row n taken shape ef ee es shaped all et enough room =
    let number : n ≡ slots ws js = all room.words (omega (arith, room.few_slots)) in
    let some : 1 ≤ n = omega (arith, number, some_slots ws js) in
    let few : most_words n first end ≡ most_words (slots ws js) first end =
    ap (λ m. most_words m first end) number in
    let parts =
    enough some room.order (omega (arith, few, room.few_in_row)) (omega (arith, few, et, room.few_words))
    (λ many. omega (arith, few, room.whole (omega (arith, number, many)))) in
    record {
      first_is = ef;
      positions = parts.0;
      shape = rw (ee, es) (shaped some);
      enough = subst (λ m. m * 2 * row.positions ≤ 64 * row.length) number parts.1;
      few = room.few_slots;
    }

-- more slots need no fewer words
pub more_words : (k n first end : ℕ) → k ≤ n → most_words k first end ≤ most_words n first end
more_words k n first end l =
    let bits : k * 2 * (end + 1 - first) ≤ n * 2 * (end + 1 - first) =
    mul-le-mul_right (end + 1 - first) (omega arith) in
    omega (arith, bits)

-- rows have room still where one is added that needs no more than each may
pub roomy_added : (ws : List ℕ) (k n m first end : ℕ) (old mid new : Kept) → mid.rows ≡ old.rows → mid.bits ≡ old.bits
    → OneRowMore m mid new → m ≤ most_words k first end → k ≤ n → length mid.rows < length ws
    → Roomy ws n first end old → Roomy ws n first end new
roomy_added ws k n m first end old mid new er eb more few l less h =
    let rows : length mid.rows ≡ length old.rows = ap (λ (xs : List Row). length xs) er in
    let bits : length mid.bits ≡ length old.bits = ap (λ (xs : List ℕ). length xs) eb in
    elim more [
      | inl same ↦
          let all : length new.rows * most_words n first end ≡ length old.rows * most_words n first end =
          ap (λ (a : ℕ). a * most_words n first end) (same.0 ∙ rows) in
          record { rows = omega (arith, same.0, rows, h.rows); bits = omega (arith, same.1, all, bits, h.bits) }
      | inr one ↦
          let all : length new.rows * most_words n first end
          ≡ length old.rows * most_words n first end + most_words n first end =
          ap (λ (a : ℕ). a * most_words n first end) (one.0 ∙ ap (λ (a : ℕ). a + 1) rows)
          ∙ next_line (length old.rows) (most_words n first end) in
          record {
            rows = omega (arith, one.0, less);
            bits = omega (arith, one.1, all, bits, h.bits, few, more_words k n first end l);
          }
    ]
  where
    next_line : (a b : ℕ) → (a + 1) * b ≡ a * b + b
    next_line a b = grind arith
