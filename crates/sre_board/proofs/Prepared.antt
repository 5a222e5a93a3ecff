-- What the memo of failures has taken in stays when a row is prepared for a configuration, which has a bit then, inside
-- an atomic scope and outside.
use Rattle.sre_board.proofs.Terms.{◌≡◌, ℕ, zero, suc, ◌+◌, ◌*◌, ◌^◌, ◌<◌, ◌≤◌, ◌⊎◌, inl, inr, Bool, List, [], ◌∷◌}
use Rattle.sre_board.proofs.Terms.{length, Some, slice_get, refl, sym, ap, ◌∙◌, subst, arith, cases_eq}
use Rattle.sre_board.proofs.Terms.{slice_get_within, mul-le-mul_left, mul-le-mul_right, Run, Attempt, Spot, repeats}
use Rattle.sre_board.proofs.Terms.{slots, place_of, is_again, Counted, placed_from, Account, RowLies, EndsTable, Kept}
use Rattle.sre_board.proofs.Terms.{HasRow, HasNoRow, NewRow, Capacity, BitsStay, BitsKept, Laid, Roomy, HasBit}
use Rattle.sre_board.proofs.Terms.{most_words, Row, most_slots, SettledIn, same_station, same_number, Room, HasSlots}
use Rattle.sre_turns.proofs.bound.NestedPlaces.{slots_within}
use Rattle.sre_board.proofs.AccountLaws.{account_grows, lies_still}
use Rattle.sre_board.proofs.Rows.{fewer_rows, more_words, bit_there}
use Rattle.sre_board.proofs.CounterStates.{lies_words}

abbrev NoneIn : List Row → ℕ → Type 0
NoneIn rs place = (n : ℕ) (r : Row) → slice_get rs n ≡ Some r → r.place ≡ place → ⊥

row_in : (rs : List Row) (place : ℕ)
    → ((n : ℕ) × (r : Row) × (slice_get rs n ≡ Some r) × (r.place ≡ place)) ⊎ NoneIn rs place
row_in [] place = inr (λ n r e p. absurd (cc e))
row_in (row ∷ rs) place = elim (cases_eq row.place place) [
  | inl same ↦ inl (0, row, refl, same)
  | inr apart ↦ elim (row_in rs place) [
    | inl h ↦ inl (suc h.0, h.1, h.2, h.3)
    | inr none ↦ inr (none_more apart none)
  ]
]
  where
    none_more : (row.place ≡ place → ⊥) → NoneIn rs place → NoneIn (row ∷ rs) place
    none_more apart none zero r e p = let is : row ≡ r = cc in apart (ap (λ (s : Row). s.place) is ∙ p)
    none_more apart none (suc n) r e p = none n r e p

pub has_row : (k : Kept) (place : ℕ) → HasRow k place ⊎ HasNoRow k place
has_row k place = elim (row_in k.rows place) [
  | inl h ↦ inl (record { number = h.0; row = h.1; there = h.2; place_is = h.3 })
  | inr none ↦ inr none
]

-- one row more has room, where fewer have it than there are words
room_for_one : (rows words most bits : ℕ) → rows < words → bits ≤ rows * most → words * most ≤ 2 ^ 30
    → bits + most ≤ 2 ^ 30
room_for_one rows words most bits l few all =
    let next : (rows + 1) * most ≡ rows * most + most = grind arith in
    omega (arith, next, few, all, mul-le-mul_right most (more l))
  where
    more : rows < words → rows + 1 ≤ words
    more l = omega arith

module _ (r : Run) (pl : Counted r) (first : ℕ) (old new : Kept) (es : EndsTable) (x : Spot) (place : ℕ)
    (xs : List Attempt) (n : ℕ) (room : Room r pl first) (settled : SettledIn r pl first x)
    (place_is : place_of x ≡ Some place) (is_place : place < length r.words)
    (rows : NewRow r.words first r.subject.end x.point (repeats x.frames) old new) (stay : BitsStay old new)
    (kept : BitsKept old new) (laid : Laid new)
    (roomy : (m : ℕ) → HasSlots r.words (repeats x.frames) m → Roomy r.words m first r.subject.end old
    → Roomy r.words m first r.subject.end new)
    (account : Account r pl first old es xs n) where
  begins : first ≤ x.position
  begins = subst (λ (q : ℕ). first ≤ q) (placed_from x.point (repeats x.frames) place x.position place_is) settled.from

  -- its loops have no more slots than the tree tells
  has_slots : HasSlots r.words (repeats x.frames) (most_slots pl.tree)
  has_slots =
      let most = slots_within r.words pl.tree pl.whole x settled.lies in
      record {
        words = lies_words r.words pl.tree pl.whole x settled.lies;
        few = omega (arith, most, room.slots);
        most = most;
      }

  capacity : HasNoRow old place → Capacity r.words first r.subject.end place (repeats x.frames) old
  capacity none =
      let few : length old.rows < length r.words =
      fewer_rows old (length r.words) account.laid (λ i row e. (account.rows i row e).place) place is_place none in
      let most : ℕ = most_words (most_slots pl.tree) first r.subject.end in
      let more : length old.bits + most ≤ 2 ^ 30 =
      room_for_one (length old.rows) (length r.words) most (length old.bits) few account.roomy.bits room.words in
      let own : most_words (slots r.words (repeats x.frames)) first r.subject.end ≤ most =
      more_words (slots r.words (repeats x.frames)) (most_slots pl.tree) first r.subject.end has_slots.most in
      let words : length r.words * 1 ≤ length r.words * most = mul-le-mul_left (length r.words) (omega arith) in
      record {
        is_place = is_place;
        few_places = omega (arith, words, room.words);
        few_rows = few;
        few_words = omega (arith, own, more);
        few_in_row = omega (arith, own, more);
        order = omega (arith, begins, settled.inside);
        few_slots = has_slots.few;
        whole = λ many. omega (arith, own, room.whole (omega (arith, many, has_slots.most)));
        words = has_slots.words;
      }

  -- a place whose row is new had none
  had_none : (i : ℕ) (row : Row) → slice_get new.rows i ≡ Some row → i ≡ length old.rows → row.place ≡ place
      → HasNoRow old place
  had_none i row e ei ep = elim (has_row old place) [
    | inr none ↦ none
    | inl h ↦
        let one : h.number ≡ i =
        laid.alone h.number i h.row row (rows.stay.there h.number h.row h.there) e (h.place_is ∙ sym ep) in
        absurd (omega (arith, one, ei, slice_get_within old.rows h.number h.row h.there))
  ]

  same_place : (row : Row) → place_of x ≡ Some row.place → row.place ≡ place
  same_place row e = same_number (sym e ∙ place_is)

  row_lies : (i : ℕ) (row : Row) → slice_get new.rows i ≡ Some row → RowLies r pl first new row
  row_lies i row e = elim (rows.rows i row e) [
    | inl l ↦ lies_still r pl first old new row rows.stay (account.rows i row l)
    | inr g ↦ record {
      spot = x;
      place_is = g.1;
      kind = g.2;
      lies = settled.lies;
      place = omega (arith, is_place, same_place row g.1);
      is_for = g.3 (subst (λ p. Capacity r.words first r.subject.end p (repeats x.frames) old)
          (sym (same_place row g.1)) (capacity (had_none i row e g.0 (same_place row g.1))));
    }
  ]

  pub account_prepared : Account r pl first new es xs n
  account_prepared =
      account_grows r pl first old new es xs n stay kept rows.stay row_lies laid
      (roomy (most_slots pl.tree) has_slots account.roomy) account

  has_it : (Capacity r.words first r.subject.end place (repeats x.frames) old → HasRow new place) → HasRow new place
  has_it there = elim (has_row old place) [
    | inl h ↦ record {
      number = h.number;
      row = h.row;
      there = rows.stay.there h.number h.row h.there;
      place_is = h.place_is;
    }
    | inr none ↦ there (capacity none)
  ]

  pub bit_prepared : (inside : Bool)
      → (Capacity r.words first r.subject.end place (repeats x.frames) old → HasRow new place)
      → HasBit new r.words inside x
  bit_prepared inside there =
      let h = has_it there in
      let l = row_lies h.number h.row h.there in
      let at : place_of x ≡ Some h.row.place = place_is ∙ ap (λ i. Some i) (sym h.place_is) in
      let same = same_station r.words pl.tree pl.whole h.row.place x l.spot at l.place_is settled.lies l.lies in
      let kind : h.row.again ≡ is_again x.point = l.kind ∙ ap (λ pt. is_again pt) (sym same.0) in
      bit_there new r.words first r.subject.end (repeats l.spot.frames) inside x h.number h.row at kind same.1
      settled.passed begins settled.inside (lies_words r.words pl.tree pl.whole l.spot l.lies) h.there l.is_for
