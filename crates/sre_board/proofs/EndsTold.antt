-- Which ends a memo returns for configurations once it has grown: those from before, none outside of atomic scopes.
-- That the step bound suffices (`enough` of sre_engine) rests on this.
use Rattle.sre_board.proofs.Terms.{◌≡◌, ℕ, ◌+◌, ◌*◌, ◌/◌, Bool, true, false, List, [], ◌∷◌, Some, refl, sym, ap, ◌∙◌}
use Rattle.sre_board.proofs.Terms.{subst, arith, StringCursor, Run, LoopsAlike, least_from, Attempt, Spot, Frame, BitOf}
use Rattle.sre_board.proofs.Terms.{EndsTable, HoldsEnd, NumberOf, EndsRight, TellsEnd, Kept, Entry, HasSlot, BitsStay}
use Rattle.sre_board.proofs.Terms.{RowsStay, Laid, radix, digit, Row}
use Rattle.sre_board.proofs.EndsKept.{one_number, number_stays}
use Rattle.sre_board.proofs.KeptSpots.{same_row}
use Rattle.sre_board.proofs.OneEntry.{entry_at}

-- loops that have a slot of a shape had it before others followed, where loops that are alike had one
slot_before : (ws : List ℕ) (p q least : ℕ) (old new : List ℕ) (j i a b : ℕ) (fs gs : List Frame) (s t : ℕ)
    → HasSlot ws p new j i a fs s → HasSlot ws q old j i b gs t → LoopsAlike ws least fs gs
    → HasSlot ws p old j i a fs s
slot_before ws p q least old new j i a b [] [] s t h k alike = h
slot_before ws p q least old new j i a b (f ∷ fs) (g ∷ gs) s t h k alike = (
  k.0 ∙ ap (λ n. Some n) (sym alike.0.repeat),
  h.1,
  slot_before ws p q least old new j (i + 1) (a * radix ws f.repeat + digit ws p f)
      (b * radix ws g.repeat + digit ws q g) fs gs s t h.2 k.2 alike.1,
)
slot_before ws p q least old new j i a b fs gs s t h k alike = absurd alike

-- a spot that shares its bit with one that had it before had it, too
entry_before : (old new : Kept) (ws : List ℕ) (inside : Bool) (x y : Spot) (at bit other_at other_bit least : ℕ)
    → RowsStay old new → Laid new → at ≡ other_at → Entry old ws inside y other_at other_bit
    → Entry new ws inside x at bit → LoopsAlike ws least x.frames y.frames → Entry old ws inside x at bit
entry_before old new ws inside x y at bit other_at other_bit least stay laid same was now alike =
    let row : was.row ≡ now.row =
    same_row new was.number now.number was.row now.row (was.index / 64) (now.index / 64) at laid
    (stay.there was.number was.row was.there) now.there was.within now.within (same ∙ was.at_is) now.at_is in
    let shape = subst (λ (w : Row). HasSlot ws y.position old.shapes w.end w.shape 0 y.frames was.slot) row was.loops in
    entry_at now was.number (was.there ∙ ap (λ (w : Row). Some w) row)
    (slot_before ws x.position y.position least old.shapes new.shapes now.row.end now.row.shape 0 0 x.frames y.frames
    now.slot was.slot now.loops shape alike)

-- the number of a spot's bit
number_of : (k : Kept) (ws : List ℕ) (inside : Bool) (x : Spot) (at bit : ℕ) → Entry k ws inside x at bit
    → NumberOf k ws inside x (at * 64 + bit)
number_of k ws inside x at bit e =
    record { at = at; bit = bit; entry = e; below = omega (arith, e.bit_is); number = refl }

-- so the number of the bit of an instruction that is tried is that of its spot
pub bit_numbered : (k : Kept) (ws : List ℕ) (a : Attempt) (b : ℕ) → BitOf k ws a b
    → NumberOf k ws a.inside a.spot b
bit_numbered k ws a b g = g

module _ (r : Run) (old : Kept) (es : EndsTable) (right : EndsRight r old es) where
  -- an end that is kept for the bit of a spot inside of one was told for that spot before the memory grew
  pub end_told_before : (new : Kept) (x : Spot) (at bit : ℕ) (c : StringCursor) → BitsStay old new → RowsStay old new
      → Laid new → Entry new r.words true x at bit → HoldsEnd es (at * 64 + bit) c → TellsEnd old es r.words true x c
  end_told_before new x at bit c stay rows laid entry held =
      let e = right (at * 64 + bit) c held in
      let number : NumberOf new r.words true x (at * 64 + bit) = number_of new r.words true x at bit entry in
      let alike = (one_number new r.words true true x e.spot (at * 64 + bit) laid number
      (number_stays old new r.words true e.spot (at * 64 + bit) stay e.number)).1 in
      let same : at ≡ e.number.at = omega (arith, e.number.number, e.number.below, number.below) in
      record {
        number = at * 64 + bit;
        is = number_of old r.words true x at bit
            (entry_before old new r.words true x e.spot at bit e.number.at e.number.bit
            (least_from x.point x.position) rows laid same e.number.entry entry alike.loops);
        held = held;
      }

  -- no end is kept for the bit of a spot outside of regions
  pub no_end_outside : (x : Spot) (at bit : ℕ) (c : StringCursor) → Laid old → Entry old r.words false x at bit
      → HoldsEnd es (at * 64 + bit) c → ⊥
  no_end_outside x at bit c laid entry held =
      let e = right (at * 64 + bit) c held in
      let number = number_of old r.words false x at bit entry in
      let one = one_number old r.words false true x e.spot (at * 64 + bit) laid number e.number in
      absurd (let false_is : true ≡ false = one.0 in cc)
