-- Configurations that are memoized as bits: those with one bit are alike, and one more is memoized where a bit is set.
use Rattle.sre_board.proofs.Terms.{◌≡◌, ℕ, ◌+◌, ◌-◌, ◌*◌, ◌/◌, ◌%◌, ◌^◌, ◌<◌, ◌⊎◌, inl, inr, Bool, List, length, Some}
use Rattle.sre_board.proofs.Terms.{slice_get, slice_index, slice_set, get_or, sym, ap, ◌∙◌, subst, arith, w64, bit_or}
use Rattle.sre_board.proofs.Terms.{bit_at, cases_eq, get_or-set_same, get_or-set_other, get_or_read, same_from_place}
use Rattle.sre_board.proofs.Terms.{bit_at_set_same, bit_at_set_other, same_Some, LoopsAlike, Alike, least_from, Spot}
use Rattle.sre_board.proofs.Terms.{repeats, place_of, is_again, placed_from, Kept, kept_of, Entry, HoldsOneMore}
use Rattle.sre_board.proofs.Terms.{BitsStay, BitsKept, Sets, HasSlot, Laid, ones_below, Row, same_point, HoldsStill}
use Rattle.std.proofs.lemmas.Bool.{cases_order}
use Rattle.sre_board.proofs.CounterStates.{one_if, same_pair, loops_alike}
use Rattle.sre_board.proofs.CountingBits.{one_set, sum_set}
use Rattle.sre_board.proofs.OneEntry.{entry_at}

-- the words of bits belong to one row each
pub same_row : (k : Kept) (m n : ℕ) (r s : Row) (i j at : ℕ) → Laid k → slice_get k.rows m ≡ Some r
    → slice_get k.rows n ≡ Some s → i < r.length → j < s.length → at ≡ r.base + i → at ≡ s.base + j → r ≡ s
same_row k m n r s i j at laid er es hi hj ei ej = elim (cases_order m n) [
  | inl e ↦ same_Some r s (sym er ∙ ap (λ x. slice_get k.rows x) e ∙ es)
  | inr (inl h) ↦ absurd (omega (arith, laid.apart m n r s h er es))
  | inr (inr h) ↦ absurd (omega (arith, laid.apart n m s r h es er))
]

-- spots with one bit are alike
pub one_bit : (k : Kept) (ws : List ℕ) (inside other : Bool) (x y : Spot) (at bit : ℕ) → Laid k
    → Entry k ws inside x at bit → Entry k ws other y at bit → (other ≡ inside) × Alike ws x y
one_bit k ws inside other x y at bit laid a b =
    let row : b.row ≡ a.row =
    same_row k b.number a.number b.row a.row (b.index / 64) (a.index / 64) at laid b.there a.there b.within a.within
    b.at_is a.at_is in
    let base : b.row.base ≡ a.row.base = ap (λ (r : Row). r.base) row in
    let first : b.row.first ≡ a.row.first = ap (λ (r : Row). r.first) row in
    let positions : b.row.positions ≡ a.row.positions = ap (λ (r : Row). r.positions) row in
    let index : b.index ≡ a.index = omega (arith, base, a.at_is, b.at_is, a.bit_is, b.bit_is) in
    let one : (b.slot * 2 + one_if other) * a.row.positions + (y.position - a.row.first)
    ≡ (a.slot * 2 + one_if inside) * a.row.positions + (x.position - a.row.first) =
    ap (λ (r : Row). (b.slot * 2 + one_if other) * r.positions + (y.position - r.first)) (sym row)
    ∙ sym b.index_is ∙ index ∙ a.index_is in
    let parts = same_from_place (b.slot * 2 + one_if other) (y.position - a.row.first) (a.slot * 2 + one_if inside)
    (x.position - a.row.first) a.row.positions (omega (arith, b.to, first, positions)) a.to one in
    let pair = same_pair b.slot a.slot other inside parts.0 in
    let position : x.position ≡ y.position = omega (arith, parts.1, a.from, b.from, first) in
    let moved = subst (λ (r : Row). HasSlot ws y.position k.shapes r.end r.shape 0 y.frames b.slot) row b.loops in
    let there = subst (λ p. HasSlot ws p k.shapes a.row.end a.row.shape 0 y.frames b.slot) (sym position) moved in
    let slotted = subst (λ s. HasSlot ws x.position k.shapes a.row.end a.row.shape 0 y.frames s) pair.0 there in
    let alike = loops_alike ws x.position k.shapes a.row.end a.row.shape 0 0 x.frames y.frames a.slot a.loops slotted in
    let from : x.position ≡ least_from x.point x.position =
    sym (placed_from x.point (repeats x.frames) a.row.place x.position a.place) in
    let placed : place_of y ≡ Some a.row.place = b.place ∙ ap (λ (r : Row). Some r.place) row in
    let kind : is_again x.point ≡ is_again y.point = sym a.kind ∙ ap (λ (r : Row). r.again) (sym row) ∙ b.kind in (
      pair.1,
      record {
        point = same_point x.point y.point (repeats x.frames) (repeats y.frames) a.row.place a.place placed kind;
        position = position;
        loops = subst (λ p. LoopsAlike ws p x.frames y.frames) from alike.1;
      },
    )

-- a word with a bit set, alone and among the words
abbrev set_word : List ℕ → ℕ → ℕ → ℕ
set_word bits at bit = bit_or (get_or bits at 0) ((1 * 2 ^ bit) % 2 ^ 64)

abbrev with_bit : List ℕ → ℕ → ℕ → List ℕ
with_bit bits at bit = slice_set bits at (set_word bits at bit)

-- each bit is that one, or as it was
bit_then : (bits : List ℕ) (at bit m b : ℕ) → bit < 64 → at < length bits
    → ((m ≡ at) × (b ≡ bit) × (bit_at (slice_index (with_bit bits at bit) m) b ≡ 1))
    ⊎ (bit_at (slice_index (with_bit bits at bit) m) b ≡ bit_at (slice_index bits m) b)
bit_then bits at bit m b small there = elim (cases_eq m at) [
  | inr apart ↦ inr (ap (λ w. bit_at w b) (get_or-set_other bits at m (set_word bits at bit) 0 apart))
  | inl e ↦ elim (cases_eq b bit) [
    | inl f ↦
        inl (
          e,
          f,
          read e ∙ ap (λ i. bit_at (set_word bits at bit) i) f
              ∙ bit_at_set_same w64 (get_or bits at 0) bit small,
        )
    | inr other ↦
        inr (read e ∙ bit_at_set_other w64 (get_or bits at 0) bit small b other
        ∙ ap (λ i. bit_at (get_or bits i 0) b) (sym e))
  ]
]
  where
    read : m ≡ at → bit_at (slice_index (with_bit bits at bit) m) b ≡ bit_at (set_word bits at bit) b
    read e =
        ap (λ i. bit_at (slice_index (with_bit bits at bit) i) b) e
        ∙ ap (λ w. bit_at w b) (get_or-set_same bits at (set_word bits at bit) 0 there)

-- a spot's bit was set: none but those that are alike is kept in addition, and all else is as it was
pub record Written (ws : List ℕ) (inside : Bool) (x : Spot) (old new : Kept) : Type 0 where
  pub more : HoldsOneMore ws inside x old new
  pub still : HoldsStill old new
  pub stay : BitsStay old new
  pub bits : BitsKept old new
  pub sets : Sets ws inside x old new

-- what is kept is kept still where its bits stay and those that are set stay so
pub still_kept : (old new : Kept) → BitsStay old new → BitsKept old new → HoldsStill old new
still_kept old new stay kept = λ ws inside x h. record {
  at = h.at;
  bit = h.bit;
  entry = stay ws inside x h.at h.bit h.entry;
  is_set = kept h.at h.bit h.is_set;
}

module _ (k : Kept) (ws : List ℕ) (inside : Bool) (x : Spot) (at bit : ℕ) (laid : Laid k) (small : bit < 64)
    (there : at < length k.bits) (e : Entry k ws inside x at bit) where
  abbrev now : Kept
  now = record k { bits = with_bit k.bits at bit }

  stay : BitsStay k now
  stay wt other y m b d = entry_at d d.number d.there d.loops

  kept : BitsKept k now
  kept m b was = elim (bit_then k.bits at bit m b small there) [ inl one ↦ one.2 | inr same ↦ same ∙ was ]

  one_more : HoldsOneMore ws inside x k now
  one_more other y h =
      let d : Entry k ws other y h.at h.bit = entry_at h.entry h.entry.number h.entry.there h.entry.loops in
      elim (bit_then k.bits at bit h.at h.bit small there) [
        | inl one ↦
            inr (one_bit k ws inside other x y at bit laid e
            (subst (λ b. Entry k ws other y at b) one.1 (subst (λ a. Entry k ws other y a h.bit) one.0 d)))
        | inr same ↦ inl (record { at = h.at; bit = h.bit; entry = d; is_set = sym same ∙ h.is_set })
      ]

  pub bit_written : Written ws inside x k now
  bit_written = record {
    more = one_more;
    still = still_kept k now stay kept;
    stay = stay;
    bits = kept;
    sets = record {
      at = at;
      bit = bit;
      entry = e;
      is_set =
          ap (λ w. bit_at w bit) (get_or-set_same k.bits at _ 0 there)
          ∙ bit_at_set_same w64 (get_or k.bits at 0) bit small;
      count =
          sum_set (ones_below 64) k.bits at _ (bit_at (get_or k.bits at 0) bit) there
          (one_set 64 (get_or k.bits at 0) bit (omega arith) small);
    };
  }

-- the same, as the bits are written
pub written : (k : Kept) (rows : List Row) (shapes bits : List ℕ) (ws : List ℕ) (inside : Bool) (x : Spot)
    (at bit v : ℕ) → kept_of rows shapes bits ≡ k → Laid (kept_of rows shapes bits) → bit < 64 → at < length k.bits
    → Entry k ws inside x at bit → v ≡ get_or bits at v
    → Written ws inside x k (kept_of rows shapes (slice_set bits at (bit_or v ((1 * 2 ^ bit) % 2 ^ 64))))
written k rows shapes bits ws inside x at bit v is laid small there e ev =
    let room : at < length bits = omega (arith, there, ap (λ (y : Kept). length y.bits) is) in
    let entry : Entry (kept_of rows shapes bits) ws inside x at bit =
    subst (λ (y : Kept). Entry y ws inside x at bit) (sym is) e in
    subst
    (λ (y : Kept). Written ws inside x y
    (kept_of rows shapes (slice_set bits at (bit_or v ((1 * 2 ^ bit) % 2 ^ 64))))) is
    (rw (get_or_read bits at v room ev 0)
    (bit_written (kept_of rows shapes bits) ws inside x at bit laid small room entry))
