-- A configuration has one bit at most: its address has one row, and its loops have one counter state there. It has one
-- exactly where that row has it.
use Rattle.sre_board.proofs.Terms.{◌≡◌, ℕ, ◌+◌, ◌-◌, ◌*◌, ◌/◌, ◌%◌, ◌^◌, ◌<◌, ◌≤◌, Bool, List, [], ◌∷◌, cond, length}
use Rattle.sre_board.proofs.Terms.{Some, slice_get, sym, ap, ◌∙◌, subst, arith, same_Some, Spot, Frame, place_of}
use Rattle.sre_board.proofs.Terms.{is_again, NumberOf, Kept, Entry, HasBit, HasSlot, Laid, AreRead, radix, digit, Row}

-- an entry rests on its row and on the shape of its loops alone
pub entry_at : {k l : Kept} {ws : List ℕ} {inside : Bool} {x : Spot} {at bit : ℕ} (e : Entry k ws inside x at bit)
    (n : ℕ) → slice_get l.rows n ≡ Some e.row → HasSlot ws x.position l.shapes e.row.end e.row.shape 0 x.frames e.slot
    → Entry l ws inside x at bit
entry_at e n there loops = record {
  number = n;
  row = e.row;
  slot = e.slot;
  index = e.index;
  there = there;
  place = e.place;
  kind = e.kind;
  read = e.read;
  loops = loops;
  few = e.few;
  from = e.from;
  to = e.to;
  index_is = e.index_is;
  within = e.within;
  at_is = e.at_is;
  bit_is = e.bit_is;
}

-- loops have one slot of a shape
pub one_slot : (ws : List ℕ) (p : ℕ) (shapes : List ℕ) (j i before : ℕ) (fs : List Frame) (s t : ℕ)
    → HasSlot ws p shapes j i before fs s → HasSlot ws p shapes j i before fs t → s ≡ t
one_slot ws p shapes j i before [] s t h k = h.1 ∙ sym k.1
one_slot ws p shapes j i before (f ∷ fs) s t h k =
    one_slot ws p shapes j (i + 1) (before * radix ws f.repeat + digit ws p f) fs s t h.2 k.2

-- a place has one row
pub one_row_of : (k : Kept) (m n : ℕ) (r s : Row) → Laid k → slice_get k.rows m ≡ Some r → slice_get k.rows n ≡ Some s
    → r.place ≡ s.place → r ≡ s
one_row_of k m n r s laid er es e =
    same_Some r s (sym er ∙ ap (λ i. slice_get k.rows i) (laid.alone m n r s er es e) ∙ es)

pub one_entry : (k : Kept) (ws : List ℕ) (inside : Bool) (x : Spot) (at bit other_at other_bit : ℕ) → Laid k
    → Entry k ws inside x at bit → Entry k ws inside x other_at other_bit → (at ≡ other_at) × (bit ≡ other_bit)
one_entry k ws inside x at bit other_at other_bit laid a b =
    let row : a.row ≡ b.row =
    one_row_of k a.number b.number a.row b.row laid a.there b.there
    (same_Some a.row.place b.row.place (sym a.place ∙ b.place)) in
    let there = subst (λ (r : Row). HasSlot ws x.position k.shapes r.end r.shape 0 x.frames a.slot) row a.loops in
    let slot : a.slot ≡ b.slot =
    one_slot ws x.position k.shapes b.row.end b.row.shape 0 x.frames a.slot b.slot there b.loops in
    let index : a.index ≡ b.index =
    a.index_is
    ∙ ap (λ s. (s * 2 + cond inside 1 0) * a.row.positions + (x.position - a.row.first)) slot
    ∙ ap (λ (r : Row). (b.slot * 2 + cond inside 1 0) * r.positions + (x.position - r.first)) row
    ∙ sym b.index_is in (
      a.at_is ∙ ap (λ (r : Row). r.base + a.index / 64) row ∙ ap (λ i. b.row.base + i / 64) index ∙ sym b.at_is,
      a.bit_is ∙ ap (λ i. i % 64) index ∙ sym b.bit_is,
    )

-- the row of a spot's place, and the shapes as they are read
module _ (k : Kept) (ws : List ℕ) (inside : Bool) (x : Spot) (n : ℕ) (r : Row) (laid : Laid k)
    (place : place_of x ≡ Some r.place) (there : slice_get k.rows n ≡ Some r) (shapes : List ℕ)
    (es : shapes ≡ k.shapes) where
  -- is that of its bit
  its_row : (h : HasBit k ws inside x) → h.entry.row ≡ r
  its_row h =
      one_row_of k h.entry.number n h.entry.row r laid h.entry.there there
      (same_Some h.entry.row.place r.place (sym h.entry.place ∙ place))

  its_slot : (h : HasBit k ws inside x) → HasSlot ws x.position shapes r.end r.shape 0 x.frames h.entry.slot
  its_slot h =
      subst (λ (ss : List ℕ). HasSlot ws x.position ss r.end r.shape 0 x.frames h.entry.slot) (sym es)
      (subst (λ (w : Row). HasSlot ws x.position k.shapes w.end w.shape 0 x.frames h.entry.slot) (its_row h)
      h.entry.loops)

  -- the loops have a slot, whose index is not within the row
  module _ (s : ℕ) (slot : HasSlot ws x.position shapes r.end r.shape 0 x.frames s) where
    abbrev index : ℕ
    index = (s * 2 + cond inside 1 0) * r.positions + (x.position - r.first)

    pub no_index : r.length ≤ index / 64 → HasBit k ws inside x → ⊥
    no_index far h =
        let e = h.entry in
        let row : e.row ≡ r = its_row h in
        let same : s ≡ e.slot =
        one_slot ws x.position shapes r.end r.shape 0 x.frames s e.slot slot (its_slot h) in
        let is : index ≡ e.index =
        ap (λ m. (m * 2 + cond inside 1 0) * r.positions + (x.position - r.first)) same
        ∙ ap (λ (w : Row). (e.slot * 2 + cond inside 1 0) * w.positions + (x.position - w.first)) (sym row)
        ∙ sym e.index_is in
        omega (arith, far, e.within, is, ap (λ (w : Row). w.length) row)

    -- or is, so that it has a number
    pub bit_here : (i : ℕ) → i ≡ index → r.again ≡ is_again x.point → AreRead ws x.frames → s < 2 ^ 24
        → r.first ≤ x.position → x.position - r.first < r.positions → i / 64 < r.length
        → NumberOf k ws inside x (r.base * 64 + i) × (((r.base * 64 + i) / 64 < length k.bits)
        × Entry k ws inside x ((r.base * 64 + i) / 64) ((r.base * 64 + i) % 64))
    bit_here i is kind read few from to within = (
      record {
        at = (r.base * 64 + i) / 64;
        bit = (r.base * 64 + i) % 64;
        entry = entry;
        below = omega arith;
        number = omega arith;
      },
      (omega (arith, (laid.within n r there).0, within), entry),
    )
      where
        entry : Entry k ws inside x ((r.base * 64 + i) / 64) ((r.base * 64 + i) % 64)
        entry = record {
          number = n;
          row = r;
          slot = s;
          index = i;
          there = there;
          place = place;
          kind = kind;
          read = read;
          loops = subst (λ (ss : List ℕ). HasSlot ws x.position ss r.end r.shape 0 x.frames s) es slot;
          few = few;
          from = from;
          to = to;
          index_is = is;
          within = within;
          at_is = omega arith;
          bit_is = omega arith;
        }
