-- No memoized configuration is lost where a row is added, and none is new. So a further row extends the memo.
use Rattle.sre_board.proofs.Terms.{◌≡◌, ℕ, zero, suc, ◌+◌, ◌-◌, ◌*◌, ◌^◌, ◌<◌, ◌≤◌, ◌⊎◌, inl, inr, List, [], ◌∷◌, ◌++◌}
use Rattle.sre_board.proofs.Terms.{length, replicate, Some, slice_get, slice_index, Bool, true, false, cond, refl, sym}
use Rattle.sre_board.proofs.Terms.{ap, ◌∙◌, subst, arith, length-append, bit_at, append-nil, bit_at-zero}
use Rattle.sre_board.proofs.Terms.{slice_get_within, Frame, Kept, kept_of, HoldsNoMore, BitsStay, BitsKept, OneRowMore}
use Rattle.sre_board.proofs.Terms.{HasSlot, Laid, ones_below, radix, digit, HasNoRow, Row, get_or_append_left}
use Rattle.sre_board.proofs.Terms.{get_or-append_right, length-replicate, Grows}
use Rattle.std.proofs.Common.{sum_by}
use Rattle.sre_board.proofs.CounterStates.{slot_length, got_before, got_still, got_more}
use Rattle.sre_board.proofs.CountingBits.{sum_filled, none_in_zero}
use Rattle.sre_board.proofs.KeptSpots.{still_kept}
use Rattle.sre_board.proofs.OneEntry.{entry_at}

-- a bit that is set is set in a longer list
bits_longer : (bs cs : List ℕ) (at bit : ℕ) → bit_at (slice_index bs at) bit ≡ 1
    → bit_at (slice_index (bs ++ cs) at) bit ≡ 1
bits_longer [] cs at bit h = absurd (omega (arith, h, bit_at-zero bit))
bits_longer (b ∷ bs) cs zero bit h = h
bits_longer (b ∷ bs) cs (suc at) bit h = bits_longer bs cs at bit h

-- past the bits there were, none is set
bits_after : (bits : List ℕ) (n at bit : ℕ) → length bits ≤ at
    → bit_at (slice_index (bits ++ replicate n 0) at) bit ≡ 1 → ⊥
bits_after bits n at bit h is_set =
    let moved : slice_index (bits ++ replicate n 0) at ≡ slice_index (replicate n 0) (at - length bits) =
    get_or-append_right bits (replicate n 0) (length bits) at 0 refl h in
    let none : slice_index (bits ++ replicate n 0) at ≡ 0 = moved ∙ zeros n (at - length bits) in
    omega (arith, sym (ap (λ w. bit_at w bit) none) ∙ is_set, bit_at-zero bit)
  where
    zeros : (n i : ℕ) → slice_index (replicate n 0) i ≡ 0
    zeros zero i = refl
    zeros (suc n) zero = refl
    zeros (suc n) (suc i) = zeros n i

-- a slot of a shape is one in other shapes that agree with these up to its end
slot_moved : (ws : List ℕ) (p : ℕ) (ss ts : List ℕ) (j i a : ℕ) (fs : List Frame) (s : ℕ)
    → ((n v : ℕ) → n < j → slice_get ss n ≡ Some v → slice_get ts n ≡ Some v)
    → HasSlot ws p ss j i a fs s → HasSlot ws p ts j i a fs s
slot_moved ws p ss ts j i a [] s same h = h
slot_moved ws p ss ts j i a (f ∷ fs) s same h = (
  same i f.repeat (omega (arith, slot_length ws p ss j i a (f ∷ fs) s h)) h.0,
  h.1,
  slot_moved ws p ss ts j (i + 1) (a * radix ws f.repeat + digit ws p f) fs s same h.2,
)

-- rows, shapes and bits behind those there were: no new bit is set, and the new rows begin behind the bits there were
record Longer (old new : Kept) : Type 0 where
  rs : List Row
  ss : List ℕ
  n : ℕ
  rows : new.rows ≡ old.rows ++ rs
  shapes : new.shapes ≡ old.shapes ++ ss
  bits : new.bits ≡ old.bits ++ replicate n 0
  behind : (i : ℕ) (r : Row) → slice_get new.rows i ≡ Some r
      → (slice_get old.rows i ≡ Some r) ⊎ (length old.bits ≤ r.base)

module _ (old new : Kept) (laid : Laid old) (more : Longer old new) where
  kept : BitsKept old new
  kept at bit set =
      ap (λ (bs : List ℕ). bit_at (slice_index bs at) bit) more.bits
      ∙ bits_longer old.bits (replicate more.n 0) at bit set

  stay : BitsStay old new
  stay ws inside x at bit e =
      entry_at e e.number
      (ap (λ (rs : List Row). slice_get rs e.number) more.rows ∙ got_still old.rows more.rs e.number e.row e.there)
      (slot_moved ws x.position old.shapes new.shapes e.row.end e.row.shape 0 x.frames e.slot
      (λ n v l h. ap (λ (ss : List ℕ). slice_get ss n) more.shapes ∙ got_still old.shapes more.ss n v h) e.loops)

  no_more : HoldsNoMore old new
  no_more ws inside x h =
      let e = h.entry in
      let set : bit_at (slice_index (old.bits ++ replicate more.n 0) h.at) h.bit ≡ 1 =
      ap (λ (bs : List ℕ). bit_at (slice_index bs h.at) h.bit) (sym more.bits) ∙ h.is_set in
      elim (more.behind e.number e.row e.there) [
        | inr far ↦ absurd (bits_after old.bits more.n h.at h.bit (omega (arith, far, e.at_is)) set)
        | inl there ↦
            let within = laid.within e.number e.row there in
            let before : h.at < length old.bits = omega (arith, within.0, e.at_is, e.within) in
            record {
              at = h.at;
              bit = h.bit;
              is_set =
                  ap (λ w. bit_at w h.bit) (sym (get_or_append_left old.bits (replicate more.n 0) 0 h.at before)) ∙ set;
              entry =
                  entry_at e e.number there
                  (slot_moved ws x.position new.shapes old.shapes e.row.end e.row.shape 0 x.frames e.slot
                  (λ n v l g. sym (got_before old.shapes more.ss n (omega (arith, l, within.1)))
                  ∙ ap (λ (ss : List ℕ). slice_get ss n) (sym more.shapes) ∙ g) e.loops);
            }
      ]

  longer : Grows old new
  longer = record {
    no_more = no_more;
    still = still_kept old new stay kept;
    stay = stay;
    bits = kept;
    same =
        ap (λ (bs : List ℕ). sum_by (ones_below 64) bs) more.bits
        ∙ sum_filled (ones_below 64) old.bits more.n none_in_zero;
  }

pub grows_not : (k : Kept) → Grows k k
grows_not k = record {
  no_more = λ ws inside x h. h;
  still = λ ws inside x h. h;
  stay = λ ws inside x at bit e. e;
  bits = λ at bit set. set;
  same = refl;
}

pub grows_after : (k l m : Kept) → Grows k l → Grows l m → Grows k m
grows_after k l m a b = record {
  no_more = λ ws inside x h. a.no_more ws inside x (b.no_more ws inside x h);
  still = λ ws inside x h. b.still ws inside x (a.still ws inside x h);
  stay = λ ws inside x at bit e. b.stay ws inside x at bit (a.stay ws inside x at bit e);
  bits = λ at bit set. b.bits at bit (a.bits at bit set);
  same = b.same ∙ a.same;
}

-- the shapes of a further row are appended
module _ (k : Kept) (rows : List Row) (shapes bits new : List ℕ) (is : kept_of rows shapes bits ≡ k)
    (laid : Laid (kept_of rows shapes bits)) (more : (xs : List ℕ) × (new ≡ shapes ++ xs)) where
  pub grown : Grows k (kept_of rows new bits)
  grown =
      subst (λ (y : Kept). Grows y (kept_of rows new bits)) is
      (longer (kept_of rows shapes bits) (kept_of rows new bits) laid (record {
        rs = [];
        ss = more.0;
        n = 0;
        rows = sym (append-nil rows);
        shapes = more.1;
        bits = sym (append-nil bits);
        behind = λ i r e. inl e;
      }))

-- a row was appended, with bits of its own, or nothing was
pub record Pushed (row : Row) (old new : Kept) : Type 0 where
  pub grows : Grows old new
  pub laid : Laid new
  pub size : OneRowMore row.length old new

module _ (rows : List Row) (shapes bits : List ℕ) (row : Row) (laid : Laid (kept_of rows shapes bits))
    (base : row.base ≡ length bits) (end : row.end ≤ length shapes) (few : row.base + row.length ≤ 2 ^ 32)
    (none : HasNoRow (kept_of rows shapes bits) row.place) where
  abbrev filled : List ℕ
  filled = bits ++ replicate row.length 0

  wide : length filled ≡ length bits + row.length
  wide =
      length-append bits (replicate row.length 0)
      ∙ ap (λ n. length bits + n) (length-replicate {A = ℕ} row.length 0)

  laid_pushed : Laid (kept_of (rows ++ row ∷ []) shapes filled)
  laid_pushed = record {
    within = λ m r g. elim (got_more rows row m r g) [
      | inl l ↦ (omega (arith, wide, (laid.within m r l).0), (laid.within m r l).1)
      | inr h ↦
          subst (λ (x : Row). (x.base + x.length ≤ length filled) × (x.end ≤ length shapes)) h.1
          (omega (arith, base, wide), end)
    ];
    apart = λ i j r s less gr gs. elim (got_more rows row j s gs) [
      | inl l ↦ elim (got_more rows row i r gr) [
        | inl m ↦ laid.apart i j r s less m l
        | inr g ↦ absurd (omega (arith, g.0, slice_get_within rows j s l))
      ]
      | inr h ↦ elim (got_more rows row i r gr) [
        | inl m ↦ omega (arith, (laid.within i r m).0, base, ap (λ (x : Row). x.base) h.1)
        | inr g ↦ absurd (omega (arith, g.0, h.0))
      ]
    ];
    alone = λ i j r s gr gs same. elim (got_more rows row j s gs) [
      | inl l ↦ elim (got_more rows row i r gr) [
        | inl m ↦ laid.alone i j r s m l same
        | inr g ↦ absurd (none j s l (sym same ∙ ap (λ (x : Row). x.place) (sym g.1)))
      ]
      | inr h ↦ elim (got_more rows row i r gr) [
        | inl m ↦ absurd (none i r m (same ∙ ap (λ (x : Row). x.place) (sym h.1)))
        | inr g ↦ g.0 ∙ sym h.0
      ]
    ];
    few = omega (arith, few, base, wide);
  }

  row_pushed : Pushed row (kept_of rows shapes bits) (kept_of (rows ++ row ∷ []) shapes filled)
  row_pushed = record {
    grows =
        longer (kept_of rows shapes bits) (kept_of (rows ++ row ∷ []) shapes filled) laid (record {
          rs = row ∷ [];
          ss = [];
          n = row.length;
          rows = refl;
          shapes = sym (append-nil shapes);
          bits = refl;
          behind = λ n r g. elim (got_more rows row n r g) [
            | inl l ↦ inl l
            | inr h ↦ inr (omega (arith, base, ap (λ (x : Row). x.base) h.1))
          ];
        });
    laid = laid_pushed;
    size = inr (length-append rows (row ∷ []), wide);
  }

pub pushed : (k : Kept) (rows : List Row) (shapes bits : List ℕ) (row : Row) (ok : Bool) (rs : List Row) (bs : List ℕ)
    → kept_of rows shapes bits ≡ k → Laid (kept_of rows shapes bits) → row.base + row.length ≤ 2 ^ 32
    → rs ≡ cond ok (rows ++ row ∷ []) rows → bs ≡ cond ok (bits ++ replicate row.length 0) bits
    → row.base ≡ length k.bits → row.end ≤ length k.shapes → HasNoRow k row.place → Pushed row k (kept_of rs shapes bs)
pushed k rows shapes bits row ok rs bs is laid few er eb =
    subst (λ (y : Kept). row.base ≡ length y.bits → row.end ≤ length y.shapes → HasNoRow y row.place
    → Pushed row y (kept_of rs shapes bs)) is (rw (er, eb) (by_ok ok))
  where
    by_ok : (b : Bool) → row.base ≡ length bits → row.end ≤ length shapes
        → HasNoRow (kept_of rows shapes bits) row.place
        → Pushed row (kept_of rows shapes bits)
        (kept_of (cond b (rows ++ row ∷ []) rows) shapes (cond b (bits ++ replicate row.length 0) bits))
    by_ok true base end none = row_pushed rows shapes bits row laid base end few none
    by_ok false base end none =
        record { grows = grows_not (kept_of rows shapes bits); laid = laid; size = inl (refl, refl) }
