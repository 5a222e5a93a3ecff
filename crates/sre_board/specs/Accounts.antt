-- What the memo of failures has taken in for the credits of instructions that may branch: a bit for each, inside an
-- atomic scope or not. The bit of an instruction that is tried is not set yet. It is set where the instruction fails.
-- Where the body of an atomic scope ends, what is tried inside has not failed: an end is memoized for the number of its
-- bit. None is taken in twice.
use Rattle.std.specs.Prelude.{⊤, ℕ, ◌+◌, ◌-◌, ◌*◌, ◌^◌, ◌<◌, ◌≤◌, ◌≡◌, List, [], ◌∷◌, ◌++◌, length, Some, slice_get}
use Rattle.std.specs.Prelude.{slice_index}
use Rattle.sre_board.specs.Terms.{bit_at, AllByRecursion, StringCursor, Run, Spot, Lies, repeats, slots, most_slots}
use Rattle.sre_board.specs.Terms.{place_of, is_again}
use Rattle.sre_model.specs.Remembered.{sides}
use Rattle.sre_turns.specs.Attempts.{Attempt}
use Rattle.sre_turns.specs.Prices.{bit_toll}
use Rattle.sre_model.specs.TreePrices.{cost_of}
use Rattle.sre_turns.specs.Settled.{Counted}
use Rattle.sre_board.specs.Choices.{Apart}
use Rattle.sre_board.specs.Ends.{EndsTable, HoldsEnd, NumberOf}
use Rattle.sre_board.specs.Failures.{Kept, RowFor, Roomy, Laid, most_words}
use Rattle.sre_board.specs.declared.failures.Row.{Row}

-- the number of the bit of what is tried
abbrev pub BitOf : Kept → List ℕ → Attempt → ℕ → Type 0
BitOf k ws a b = NumberOf k ws a.inside a.spot b

-- a bit is set
pub record IsSet (k : Kept) (b : ℕ) : Type 0 where
  pub at : ℕ
  pub bit : ℕ
  pub small : bit < 64
  pub is : b ≡ at * 64 + bit
  pub set : bit_at (slice_index k.bits at) bit ≡ 1

-- an end is kept for the number of a bit
abbrev pub IsEnded : EndsTable → ℕ → Type 0
IsEnded es b = (c : StringCursor) × HoldsEnd es b c

-- each number for which an end was kept has one still
abbrev pub StaysEnded : EndsTable → EndsTable → Type 0
StaysEnded old new = (b : ℕ) (c : StringCursor) → HoldsEnd old b c → IsEnded new b

-- the bits of all that is tried, in its order
abbrev pub BitsOf : Kept → List ℕ → List Attempt → List ℕ → Type 0
BitsOf k ws [] [] = ⊤
BitsOf k ws (x ∷ xs) (b ∷ bs) = BitOf k ws x b × BitsOf k ws xs bs
BitsOf k ws xs bs = ⊥

-- how many positions the range has from first on
abbrev pub positions_of : Run → ℕ → ℕ
positions_of r first = r.subject.end + 1 - first

-- a bit is that of a slot, a side and a position at an address, where a configuration may be tried that lies in the
-- tree's words
pub record IsOwned (r : Run) (pl : Counted r) (first : ℕ) (k : Kept) (b : ℕ) : Type 0 where
  pub number : ℕ
  pub row : Row
  pub slot : ℕ
  pub side : ℕ
  pub behind : ℕ
  pub spot : Spot
  pub there : slice_get k.rows number ≡ Some row
  pub place_is : place_of spot ≡ Some row.place
  pub lies : Lies r.words pl.tree pl.whole spot
  pub few : slot < slots r.words (repeats spot.frames)
  pub few_sides : side < sides pl.tree
  pub within : behind < positions_of r first
  pub is : b ≡ row.base * 64 + ((slot * 2 + side) * positions_of r first + behind)

-- each row is for the loops of an address in the words, and for the positions from first to end
pub record RowLies (r : Run) (pl : Counted r) (first : ℕ) (k : Kept) (row : Row) : Type 0 where
  pub spot : Spot
  pub place_is : place_of spot ≡ Some row.place
  pub kind : row.again ≡ is_again spot.point
  pub lies : Lies r.words pl.tree pl.whole spot
  pub place : row.place < length r.words
  pub is_for : RowFor k r.words first r.subject.end (repeats spot.frames) row

-- its rows are no more than there are words, and no larger than the tree's loops need
abbrev pub IsRoomy : (r : Run) → Counted r → ℕ → Kept → Type 0
IsRoomy r pl first k = Roomy r.words (most_slots pl.tree) first r.subject.end k

-- what a configuration's bit pays for
abbrev pub toll_at : Run → Spot → ℕ
toll_at r x = bit_toll r.words r.subject.end x.point (repeats x.frames)

-- and what some bits do
abbrev pub charge : (r : Run) (pl : Counted r) (first : ℕ) (k : Kept) (bs : List ℕ)
    → AllByRecursion (λ (b : ℕ). IsOwned r pl first k b) bs → ℕ
charge r pl first k [] all = 0
charge r pl first k (b ∷ bs) all = toll_at r all.0.spot + charge r pl first k bs all.1

-- the memory has taken in bits that pay for n steps; of these some are those of the instructions that are tried, some
-- are set, and for the others an end is kept
pub record Account (r : Run) (pl : Counted r) (first : ℕ) (k : Kept) (es : EndsTable) (xs : List Attempt) (n : ℕ)
    : Type 0 where
  pub trying : List ℕ
  pub failed : List ℕ
  pub ended : List ℕ
  pub bits : BitsOf k r.words xs trying
  pub set : AllByRecursion (λ (b : ℕ). IsSet k b) failed
  pub ends : AllByRecursion (λ (b : ℕ). IsEnded es b) ended
  pub owned : AllByRecursion (λ (b : ℕ). IsOwned r pl first k b) (trying ++ (failed ++ ended))
  pub apart : Apart (trying ++ (failed ++ ended))
  pub count : charge r pl first k (trying ++ (failed ++ ended)) owned ≡ n
  pub rows : (i : ℕ) (row : Row) → slice_get k.rows i ≡ Some row → RowLies r pl first k row
  pub roomy : IsRoomy r pl first k
  pub laid : Laid k

-- all addresses of the words have room for their bits in a range from first on
pub record Room (r : Run) (pl : Counted r) (first : ℕ) : Type 0 where
  pub words : length r.words * most_words (most_slots pl.tree) first r.subject.end ≤ 2 ^ 30
  pub slots : most_slots pl.tree ≤ 2 ^ 24
  pub whole : 4096 < most_slots pl.tree → most_words (most_slots pl.tree) first r.subject.end ≤ 2 ^ 24

-- for so many steps they pay at most: for what the tree's instructions cost at a position, for each side and position
abbrev pub most_paid : (r : Run) → Counted r → ℕ → ℕ
most_paid r pl first = cost_of r.subject.end 1 pl.tree 2 * (sides pl.tree * positions_of r first)
