-- Where the bodies of atomic scopes end, memoized by the numbers of configurations inside: each is the number of a bit.
-- Definitions for the machine's contracts: it memoizes such ends beside failures. What sre_engine makes public does not
-- rest on it.
use Rattle.std.specs.Prelude.{zero, suc, ◌/◌, ◌%◌, ◌≢◌, ◌≤◌, None, ◌++◌, ◌∷◌, ℕ, ◌+◌, ◌*◌, ◌<◌, ◌≡◌, ◌⊎◌, Bool, true}
use Rattle.std.specs.Prelude.{List, Option, Some, slice_index_or}
use Rattle.sre_board.specs.Terms.{StringCursor, no_marks, Run, Choice, Spot}
use Rattle.sre_turns.specs.BodyEnds.{EndsAt}
use Rattle.sre_turns.specs.OpenMarks.{open_spots}
use Rattle.sre_board.specs.Failures.{Kept, Entry}

-- the pages of words of bits, and the places of all pages, each with an end or without
pub record EndsTable : Type 0 where
  pub pages : List ℕ
  pub ends : List (Option StringCursor)

abbrev pub table_of : List ℕ → List (Option StringCursor) → EndsTable
table_of ps es = record { pages = ps; ends = es }

-- the page of a word: one more than where its 64 places begin, or 0 where it has none
abbrev pub page_at : List ℕ → ℕ → ℕ
page_at ps w = slice_index_or ps w 0

-- the end at a place of a page
abbrev pub end_in : List (Option StringCursor) → ℕ → ℕ → Option StringCursor
end_in es zero i = None
end_in es (suc base) i = slice_index_or es (base + i) None

-- the end that is kept for a number
unfoldable pub end_at : EndsTable → ℕ → Option StringCursor
end_at t n = end_in t.ends (page_at t.pages (n / 64)) (n % 64)

-- the places of each page are there, of so many, and are those of no other page
pub record IsPaged (ps : List ℕ) (size : ℕ) : Type 0 where
  pub within : (w : ℕ) → 0 < page_at ps w → page_at ps w + 63 ≤ size
  pub apart : (v w : ℕ) → 0 < page_at ps v → page_at ps v ≤ page_at ps w → page_at ps w < page_at ps v + 64 → v ≡ w

-- an end is kept for a number
abbrev pub HoldsEnd : EndsTable → ℕ → StringCursor → Type 0
HoldsEnd t n c = end_at t n ≡ Some c

-- no end is kept
abbrev pub HoldsNoEnd : EndsTable → Type 0
HoldsNoEnd t = (n : ℕ) (c : StringCursor) → HoldsEnd t n c → ⊥

-- each number has the end that it had
pub record SameEnds (old new : EndsTable) : Type 0 where
  pub same : (n : ℕ) → end_at new n ≡ end_at old n

-- each number but one has the end that it had, and that one has this
pub record PutsEnd (n : ℕ) (c : StringCursor) (old new : EndsTable) : Type 0 where
  pub held : HoldsEnd new n c
  pub same : (m : ℕ) → m ≢ n → end_at new m ≡ end_at old m

-- no end is kept that was not kept before, but this one for this number
abbrev pub HoldsOneEndMore : ℕ → StringCursor → EndsTable → EndsTable → Type 0
HoldsOneEndMore n c old new =
    (m : ℕ) (d : StringCursor) → HoldsEnd new m d → HoldsEnd old m d ⊎ ((m ≡ n) × (d ≡ c))

-- each end that was kept is kept still, unless this one is kept for its number, which is this one
abbrev pub KeepsEnds : ℕ → StringCursor → EndsTable → EndsTable → Type 0
KeepsEnds n c old new =
    (m : ℕ) (d : StringCursor) → HoldsEnd old m d → HoldsEnd new m d ⊎ ((m ≡ n) × HoldsEnd new m c)

-- the number of a spot: that of its bit among the bits of all words
pub record NumberOf (k : Kept) (ws : List ℕ) (inside : Bool) (x : Spot) (n : ℕ) : Type 0 where
  pub at : ℕ
  pub bit : ℕ
  pub entry : Entry k ws inside x at bit
  pub below : bit < 64
  pub number : n ≡ at * 64 + bit

-- a number is that of a spot inside a region whose body ends at a cursor, as long as no mark is set that is asked for
pub record EndRight (r : Run) (k : Kept) (n : ℕ) (c : StringCursor) : Type 0 where
  pub spot : Spot
  pub number : NumberOf k r.words true spot n
  pub ends : EndsAt r no_marks spot c.position
  pub stands : r.stands c c.position

-- each end that is kept is right
abbrev pub EndsRight : Run → Kept → EndsTable → Type 0
EndsRight r k t = (n : ℕ) (c : StringCursor) → HoldsEnd t n c → EndRight r k n c

-- a spot is one of those that are tried in the innermost region
pub record IsOpenSpot (cs : List Choice) (x : Spot) : Type 0 where
  pub newer : List Spot
  pub older : List Spot
  pub there : open_spots cs ≡ newer ++ x ∷ older

-- no end is kept that was not kept before, but this one for spots that are tried in the innermost region
abbrev pub HoldsOpenMore : Kept → List ℕ → List Choice → StringCursor → EndsTable → EndsTable → Type 0
HoldsOpenMore k ws cs c old new =
    (n : ℕ) (d : StringCursor) → HoldsEnd new n d
    → HoldsEnd old n d ⊎ ((d ≡ c) × ((x : Spot) × IsOpenSpot cs x × NumberOf k ws true x n))

-- each end that was kept is kept still, unless this one is kept for its number, which is that of a spot that is tried
-- in the innermost region
abbrev pub KeepsOpenEnds : Kept → List ℕ → List Choice → StringCursor → EndsTable → EndsTable → Type 0
KeepsOpenEnds k ws cs c old new =
    (n : ℕ) (d : StringCursor) → HoldsEnd old n d
    → HoldsEnd new n d ⊎ (HoldsEnd new n c × ((x : Spot) × IsOpenSpot cs x × NumberOf k ws true x n))

-- an end is kept for a spot, if it has a number
abbrev pub HasEnd : Kept → List ℕ → StringCursor → EndsTable → Spot → Type 0
HasEnd k ws c t x = (n : ℕ) → NumberOf k ws true x n → HoldsEnd t n c

-- this end is kept for each spot that is tried in the innermost region, if it has a number
abbrev pub HoldsOpenEnds : Kept → List ℕ → List Choice → StringCursor → EndsTable → Type 0
HoldsOpenEnds k ws cs c t = (x : Spot) → IsOpenSpot cs x → HasEnd k ws c t x

-- no end is kept that was not kept before, but this one for this spot
abbrev pub HoldsSpotMore : Kept → List ℕ → Spot → StringCursor → EndsTable → EndsTable → Type 0
HoldsSpotMore k ws x c old new =
    (n : ℕ) (d : StringCursor) → HoldsEnd new n d → HoldsEnd old n d ⊎ ((d ≡ c) × NumberOf k ws true x n)

-- each end that was kept is kept still, unless this one is kept for its number, which is that of this spot
abbrev pub KeepsSpotEnds : Kept → List ℕ → Spot → StringCursor → EndsTable → EndsTable → Type 0
KeepsSpotEnds k ws x c old new =
    (n : ℕ) (d : StringCursor) → HoldsEnd old n d → HoldsEnd new n d ⊎ (HoldsEnd new n c × NumberOf k ws true x n)

-- an end is kept for a spot
pub record TellsEnd (k : Kept) (t : EndsTable) (ws : List ℕ) (inside : Bool) (x : Spot) (c : StringCursor)
    : Type 0 where
  pub number : ℕ
  pub is : NumberOf k ws inside x number
  pub held : HoldsEnd t number c
