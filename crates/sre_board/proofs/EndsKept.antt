-- Body ends memoized by the numbers of configurations: what adding one preserves, that configurations with one number
-- are equivalent, and that ends which are right stay so.
-- The machine's memo of body ends rests on it.
use Rattle.sre_board.proofs.Terms.{◌≡◌, ℕ, inl, inr, Bool, true, List, [], ◌∷◌, ◌++◌, Option, Some, None, sym, ap, ◌∙◌}
use Rattle.sre_board.proofs.Terms.{subst, arith, AllByRecursion, StringCursor, no_marks, Run, Alike, Choice, Spot, Kept}
use Rattle.sre_board.proofs.Terms.{Entry, Laid, BitsStay, HasBit, EndsTable, end_at, HoldsEnd, HoldsNoEnd}
use Rattle.sre_board.proofs.Terms.{HoldsOpenMore, HasEnd, TellsEnd, NumberOf, EndsRight, IfNone, EachOpen, EndRight}
use Rattle.sre_turns.specs.BodyEnds.{EndsAt}
use Rattle.sre_board.proofs.OneEntry.{one_entry}
use Rattle.sre_board.proofs.KeptSpots.{one_bit}
use Rattle.sre_board.proofs.Remembering.{alike_onward}

-- a spot has one number
pub same_number : (k : Kept) (ws : List ℕ) (inside : Bool) (x : Spot) (m n : ℕ) → Laid k → NumberOf k ws inside x m
    → NumberOf k ws inside x n → m ≡ n
same_number k ws inside x m n laid a b =
    let e = one_entry k ws inside x a.at a.bit b.at b.bit laid a.entry b.entry in
    omega (arith, a.number, b.number, e.0, e.1)

-- what is kept for a number is kept for its spot
pub has_end : (k : Kept) (ws : List ℕ) (x : Spot) (n : ℕ) (c : StringCursor) (t : EndsTable) → NumberOf k ws true x n
    → Laid k → HoldsEnd t n c → HasEnd k ws c t x
has_end k ws x n c t number laid held = λ m other.
    ap (λ i. end_at t i) (same_number k ws true x m n laid other number) ∙ held

-- a spot without a bit has no number
pub no_number : (k : Kept) (ws : List ℕ) (inside : Bool) (x : Spot) (n : ℕ) → (HasBit k ws inside x → ⊥)
    → NumberOf k ws inside x n → ⊥
no_number k ws inside x n none number = none (record { at = number.at; bit = number.bit; entry = number.entry })

-- spots with one number are alike
pub one_number : (k : Kept) (ws : List ℕ) (inside other : Bool) (x y : Spot) (n : ℕ) → Laid k
    → NumberOf k ws inside x n → NumberOf k ws other y n → (other ≡ inside) × Alike ws x y
one_number k ws inside other x y n laid a b =
    let at : b.at ≡ a.at = omega (arith, a.number, b.number, a.below, b.below) in
    let bit : b.bit ≡ a.bit = omega (arith, a.number, b.number, a.below, b.below) in
    one_bit k ws inside other x y a.at a.bit laid a.entry
    (subst (λ i. Entry k ws other y a.at i) bit (subst (λ i. Entry k ws other y i b.bit) at b.entry))

-- a spot's number stays where bits stay
pub number_stays : (old new : Kept) (ws : List ℕ) (inside : Bool) (x : Spot) (n : ℕ) → BitsStay old new
    → NumberOf old ws inside x n → NumberOf new ws inside x n
number_stays old new ws inside x n stay a = record {
  at = a.at;
  bit = a.bit;
  entry = stay ws inside x a.at a.bit a.entry;
  below = a.below;
  number = a.number;
}

-- where no end is kept, each is right
pub right_none : (r : Run) (k : Kept) (t : EndsTable) → HoldsNoEnd t → EndsRight r k t
right_none r k t none = λ n c h. absurd (none n c h)

-- ends that are right stay so where bits stay
pub right_stays : (r : Run) (old new : Kept) (t : EndsTable) → BitsStay old new → EndsRight r old t
    → EndsRight r new t
right_stays r old new t stay was = λ n c h.
    let e = was n c h in
    record {
      spot = e.spot;
      number = number_stays old new r.words true e.spot n stay e.number;
      ends = e.ends;
      stands = e.stands;
    }

-- an end that is kept for a spot is where the body ends for that spot
pub end_told : (r : Run) (k : Kept) (t : EndsTable) (x : Spot) (c : StringCursor) → EndsRight r k t → Laid k
    → TellsEnd k t r.words true x c → EndsAt r no_marks x c.position × r.stands c c.position
end_told r k t x c right laid told =
    let e = right told.number c told.held in
    let alike = (one_number k r.words true true e.spot x told.number laid e.number told.is).1 in (
      record {
        begins = λ z os n b marks d. e.ends.begins z os n (alike_onward r.words e.spot x z alike b) marks d;
      },
      e.stands,
    )

-- where none is told of its number a spot has no end
pub none_told : (k : Kept) (t : EndsTable) (ws : List ℕ) (inside : Bool) (x : Spot) (n : ℕ) → Laid k
    → NumberOf k ws inside x n → (told : Option StringCursor) → told ≡ end_at t n
    → IfNone told ((c : StringCursor) → TellsEnd k t ws inside x c → ⊥)
none_told k t ws inside x n laid number (Some c) e = tt
none_told k t ws inside x n laid number None e = λ c told.
    let same = same_number k ws inside x told.number n laid told.is number in
    let there : end_at t n ≡ Some c = ap (λ i. end_at t i) (sym same) ∙ told.held in cc

-- what holds of all of some spots holds of each
pub each_among : (P : Spot → Type 0) (newer older : List Spot) (x : Spot) → AllByRecursion P (newer ++ x ∷ older) → P x
each_among P [] older x h = h.0
each_among P (y ∷ newer) older x h = each_among P newer older x h.1

-- the ends stay right where the body of the innermost region ends for each spot that is tried inside
pub right_open : (r : Run) (k : Kept) (cs : List Choice) (old new : EndsTable) (c : StringCursor)
    → HoldsOpenMore k r.words cs c old new → EachOpen (λ (x : Spot). EndsAt r no_marks x c.position) cs
    → r.stands c c.position → EndsRight r k old → EndsRight r k new
right_open r k cs old new c more each there was = λ m d h.
    elim (more m d h) [
      | inl before ↦ was m d before
      | inr one ↦
          let x = one.1.0 in
          let among = one.1.1 in
          subst (λ (e : StringCursor). EndRight r k m e) (sym one.0) (record {
            spot = x;
            number = one.1.2;
            ends =
                each_among (λ (y : Spot). EndsAt r no_marks y c.position) among.newer among.older x
                (subst (AllByRecursion (λ (y : Spot). EndsAt r no_marks y c.position)) among.there each);
            stands = there;
          })
    ]
