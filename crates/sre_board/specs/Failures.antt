-- The configurations that failed, as bits: one row of bits for each address, one bit for each configuration that makes
-- a difference there.
use Rattle.std.specs.Prelude.{ℕ, zero, suc, ◌+◌, ◌-◌, ◌*◌, ◌/◌, ◌%◌, ◌^◌, ◌<◌, ◌≤◌, ◌≡◌, ◌⊎◌, ⊤, Bool, cond, min, List}
use Rattle.std.specs.Prelude.{[], ◌∷◌, Option, Some, None, slice_get, slice_index, length}
use Rattle.sre_board.specs.Terms.{bit_at, sum_by, Marks, Run, Spot, repeats, slots, place_under, place_of, is_again}
use Rattle.sre_board.specs.Terms.{Frame, Point}
use Rattle.sre_model.specs.Grammar.{word}
use Rattle.sre_turns.specs.Alike.{Alike, counted_to, is_last}
use Rattle.sre_turns.specs.Hopeless.{Hopeless}
use Rattle.sre_board.specs.declared.failures.Row.{Row}
use Rattle.sre_board.specs.declared.failures.Known.{Known}
use Rattle.sre_board.specs.declared.failures.Known.TheVariants.{Failed, Open, NoBit}

-- the rows, the places of the loops in progress at all of them, and the bits of all of them
pub record Kept : Type 0 where
  pub rows : List Row
  pub shapes : List ℕ
  pub bits : List ℕ

abbrev pub kept_of : List Row → List ℕ → List ℕ → Kept
kept_of rs ss bs = record { rows = rs; shapes = ss; bits = bs }

-- up to which number the bodies of the loop at a place are counted
abbrev pub counted_at : List ℕ → ℕ → ℕ
counted_at ws q = counted_to (word ws (q + 2)) (word ws (q + 3))

-- a loop's count and last start as one number, of so many
abbrev pub digit : List ℕ → ℕ → Frame → ℕ
digit ws p f = min f.count (counted_at ws f.repeat) * 2 + cond (is_last f.last p) 1 0

abbrev pub radix : List ℕ → ℕ → ℕ
radix ws q = (counted_at ws q + 1) * 2

-- that the last body began at a position or before it
abbrev pub IsPassed : Option ℕ → ℕ → Type 0
IsPassed None p = ⊤
IsPassed (Some last) p = last ≤ p

-- the loops in progress are those of a shape, which stands from i to j; with the number before them, their digits are
-- a number
abbrev pub HasSlot : List ℕ → ℕ → List ℕ → ℕ → ℕ → ℕ → List Frame → ℕ → Type 0
HasSlot ws p shapes j i before [] slot = (i ≡ j) × (slot ≡ before)
HasSlot ws p shapes j i before (f ∷ fs) slot =
    (slice_get shapes i ≡ Some f.repeat) × IsPassed f.last p
    × HasSlot ws p shapes j (i + 1) (before * radix ws f.repeat + digit ws p f) fs slot

-- the words of the loops at these places are there
abbrev pub WordsThere : List ℕ → List ℕ → Type 0
WordsThere ws [] = ⊤
WordsThere ws (q ∷ qs) = (q + 3 < length ws) × WordsThere ws qs

-- those of the loops in progress are
abbrev pub AreRead : List ℕ → List Frame → Type 0
AreRead ws fs = WordsThere ws (repeats fs)

-- where the bit of a spot stands: in a row of its place, for its loops and its position
pub record Entry (k : Kept) (ws : List ℕ) (inside : Bool) (x : Spot) (at bit : ℕ) : Type 0 where
  pub number : ℕ
  pub row : Row
  pub slot : ℕ
  pub index : ℕ
  pub there : slice_get k.rows number ≡ Some row
  pub place : place_of x ≡ Some row.place
  pub kind : row.again ≡ is_again x.point
  pub read : AreRead ws x.frames
  pub loops : HasSlot ws x.position k.shapes row.end row.shape 0 x.frames slot
  pub few : slot < 2 ^ 24
  pub from : row.first ≤ x.position
  pub to : x.position - row.first < row.positions
  pub index_is : index ≡ (slot * 2 + cond inside 1 0) * row.positions + (x.position - row.first)
  pub within : index / 64 < row.length
  pub at_is : at ≡ row.base + index / 64
  pub bit_is : bit ≡ index % 64

-- a spot is kept: its bit is set
pub record Holds (k : Kept) (ws : List ℕ) (inside : Bool) (x : Spot) : Type 0 where
  pub at : ℕ
  pub bit : ℕ
  pub entry : Entry k ws inside x at bit
  pub is_set : bit_at (slice_index k.bits at) bit ≡ 1

-- no spot is kept
abbrev pub HoldsNone : Kept → Type 0
HoldsNone k = (ws : List ℕ) (inside : Bool) (x : Spot) → Holds k ws inside x → ⊥

-- no spot is kept that was not kept before
abbrev pub HoldsNoMore : Kept → Kept → Type 0
HoldsNoMore old new = (ws : List ℕ) (inside : Bool) (x : Spot) → Holds new ws inside x → Holds old ws inside x

-- each spot that was kept is kept still
abbrev pub HoldsStill : Kept → Kept → Type 0
HoldsStill old new = (ws : List ℕ) (inside : Bool) (x : Spot) → Holds old ws inside x → Holds new ws inside x

-- each bit is that of its spot still
abbrev pub BitsStay : Kept → Kept → Type 0
BitsStay old new =
    (ws : List ℕ) (inside : Bool) (x : Spot) (at bit : ℕ) → Entry old ws inside x at bit → Entry new ws inside x at bit

-- each bit that was set is set still
abbrev pub BitsKept : Kept → Kept → Type 0
BitsKept old new = (at bit : ℕ) → bit_at (slice_index old.bits at) bit ≡ 1 → bit_at (slice_index new.bits at) bit ≡ 1

-- how many of a word's lowest bits are set
unfoldable pub ones_below : ℕ → ℕ → ℕ
ones_below zero w = 0
ones_below (suc n) w = ones_below n w + bit_at w n

-- how many bits are set in all words
abbrev pub ones : Kept → ℕ
ones k = sum_by (ones_below 64) k.bits

-- rows, shapes and bits behind those there were: what was kept is kept still and no more is
pub record Grows (old new : Kept) : Type 0 where
  pub no_more : HoldsNoMore old new
  pub still : HoldsStill old new
  pub stay : BitsStay old new
  pub bits : BitsKept old new
  pub same : ones new ≡ ones old

-- a spot has a bit
pub record HasBit (k : Kept) (ws : List ℕ) (inside : Bool) (x : Spot) : Type 0 where
  pub at : ℕ
  pub bit : ℕ
  pub entry : Entry k ws inside x at bit

-- a spot has a bit that is not set
pub record IsOpen (k : Kept) (ws : List ℕ) (inside : Bool) (x : Spot) : Type 0 where
  pub at : ℕ
  pub bit : ℕ
  pub entry : Entry k ws inside x at bit
  pub is_clear : bit_at (slice_index k.bits at) bit ≡ 0

-- a spot's bit is set, which is one more where it was not
pub record Sets (ws : List ℕ) (inside : Bool) (x : Spot) (old new : Kept) : Type 0 where
  pub at : ℕ
  pub bit : ℕ
  pub entry : Entry old ws inside x at bit
  pub is_set : bit_at (slice_index new.bits at) bit ≡ 1
  pub count : ones new + bit_at (slice_index old.bits at) bit ≡ ones old + 1

-- what is known of a spot
abbrev pub Tells : Known → Kept → List ℕ → Bool → Spot → Type 0
Tells Failed k ws inside x = Holds k ws inside x
Tells Open k ws inside x = IsOpen k ws inside x
Tells NoBit k ws inside x = HasBit k ws inside x → ⊥

-- the places from i to j of the shapes are these
abbrev pub HasShape : List ℕ → ℕ → ℕ → List ℕ → Type 0
HasShape shapes j i [] = i ≡ j
HasShape shapes j i (q ∷ qs) = (slice_get shapes i ≡ Some q) × HasShape shapes j (i + 1) qs

-- a row is for the positions from first to end and for the loops at these places, with a bit for each of their states
pub record RowFor (k : Kept) (ws : List ℕ) (first end : ℕ) (js : List ℕ) (row : Row) : Type 0 where
  pub first_is : row.first ≡ first
  pub positions : row.positions ≡ end + 1 - first
  pub shape : HasShape k.shapes row.end row.shape js
  pub enough : slots ws js * 2 * row.positions ≤ 64 * row.length
  pub few : slots ws js ≤ 2 ^ 24

-- so many words are enough for the bits of a place with n slots, for the positions from first to end
abbrev pub most_words : ℕ → ℕ → ℕ → ℕ
most_words n first end = n * 2 * (end + 1 - first) / 64 + 1

-- a further row has room: one for a place, for the positions from first to end and for the loops at these places
pub record Capacity (ws : List ℕ) (first end place : ℕ) (js : List ℕ) (k : Kept) : Type 0 where
  pub is_place : place < length ws
  pub few_places : length ws ≤ 2 ^ 32
  pub few_rows : length k.rows < length ws
  pub few_words : length k.bits + most_words (slots ws js) first end ≤ 2 ^ 32
  pub few_in_row : most_words (slots ws js) first end ≤ 2 ^ 30
  pub order : first ≤ end
  pub few_slots : slots ws js ≤ 2 ^ 24
  pub whole : 4096 < slots ws js → most_words (slots ws js) first end ≤ 2 ^ 24
  pub words : WordsThere ws js

-- a place has a row
pub record HasRow (k : Kept) (place : ℕ) : Type 0 where
  pub number : ℕ
  pub row : Row
  pub there : slice_get k.rows number ≡ Some row
  pub place_is : row.place ≡ place

-- each row is there still, and for what it was for
pub record RowsStay (old new : Kept) : Type 0 where
  pub there : (n : ℕ) (row : Row) → slice_get old.rows n ≡ Some row → slice_get new.rows n ≡ Some row
  pub still : (ws : List ℕ) (first end : ℕ) (js : List ℕ) (row : Row) → RowFor old ws first end js row
      → RowFor new ws first end js row

-- at most one row is new, the last one: it is that of a point and, where it had room, for these positions and loops
pub record NewRow (ws : List ℕ) (first end : ℕ) (pt : Point) (js : List ℕ) (old new : Kept) : Type 0 where
  pub stay : RowsStay old new
  pub rows : (n : ℕ) (row : Row) → slice_get new.rows n ≡ Some row
      → (slice_get old.rows n ≡ Some row)
      ⊎ ((n ≡ length old.rows) × (place_under pt js ≡ Some row.place) × (row.again ≡ is_again pt)
      × (Capacity ws first end row.place js old → RowFor new ws first end js row))

-- the words of the loops at these places are there, and they have at most n slots
pub record HasSlots (ws js : List ℕ) (n : ℕ) : Type 0 where
  pub words : WordsThere ws js
  pub few : slots ws js ≤ 2 ^ 24
  pub most : slots ws js ≤ n

-- no more rows than a list has words, and no more bits than these need with n slots each
pub record Roomy (ws : List ℕ) (n first end : ℕ) (k : Kept) : Type 0 where
  pub rows : length k.rows ≤ length ws
  pub bits : length k.bits ≤ length k.rows * most_words n first end

-- at most one row more, with so many words
abbrev pub OneRowMore : ℕ → Kept → Kept → Type 0
OneRowMore n old new =
    ((length new.rows ≡ length old.rows) × (length new.bits ≡ length old.bits))
    ⊎ ((length new.rows ≡ length old.rows + 1) × (length new.bits ≡ length old.bits + n))

-- none but those that are alike to one spot
abbrev pub HoldsOneMore : List ℕ → Bool → Spot → Kept → Kept → Type 0
HoldsOneMore ws inside x old new =
    (other : Bool) (y : Spot) → Holds new ws other y → Holds old ws other y ⊎ ((other ≡ inside) × Alike ws x y)

-- each spot that is kept is hopeless under marks
abbrev pub Remembers : Run → Marks → Kept → Type 0
Remembers r m k = (inside : Bool) (x : Spot) → Holds k r.words inside x → Hopeless r inside m x

-- a place has no row
abbrev pub HasNoRow : Kept → ℕ → Type 0
HasNoRow k place = (n : ℕ) (r : Row) → slice_get k.rows n ≡ Some r → r.place ≡ place → ⊥

-- each row's number stands at its place
abbrev pub Numbered : List Row → List ℕ → Type 0
Numbered rs ns = (n : ℕ) (r : Row) → slice_get rs n ≡ Some r → slice_get ns r.place ≡ Some n

-- the rows lie one behind the other within the bits, of which there are few, and their shapes within the shapes; each
-- is the row of a place of its own
pub record Laid (k : Kept) : Type 0 where
  pub within : (n : ℕ) (r : Row) → slice_get k.rows n ≡ Some r
      → (r.base + r.length ≤ length k.bits) × (r.end ≤ length k.shapes)
  pub apart : (m n : ℕ) (r s : Row) → m < n → slice_get k.rows m ≡ Some r → slice_get k.rows n ≡ Some s
      → r.base + r.length ≤ s.base
  pub alone : (m n : ℕ) (r s : Row) → slice_get k.rows m ≡ Some r → slice_get k.rows n ≡ Some s → r.place ≡ s.place
      → m ≡ n
  pub few : length k.bits ≤ 2 ^ 32

-- a spot was kept, if it has a bit, and all else is as it was
pub record KeepsSpot (ws : List ℕ) (inside : Bool) (x : Spot) (old new : Kept) : Type 0 where
  pub more : HoldsOneMore ws inside x old new
  pub still : HoldsStill old new
  pub stay : BitsStay old new
  pub set : HasBit old ws inside x → Sets ws inside x old new
  pub rows : new.rows ≡ old.rows
  pub shapes : new.shapes ≡ old.shapes
  pub words : length new.bits ≡ length old.bits
  pub laid : Laid new
  pub bits : BitsKept old new
