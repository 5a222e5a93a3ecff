-- What a memo has: the failures and the body ends that are memoized, and how long the search goes on without.
use Rattle.std.specs.Prelude.{ℕ, ◌+◌, ◌-◌, ◌*◌, ◌^◌, ◌<◌, ◌≤◌, ◌≡◌, Bool, true, false, List, [], Option, Some, None}
use Rattle.std.specs.Prelude.{negsuc}
use Rattle.sre_machine.specs.Terms.{Ghosts, Tree, WholeItems, Marks, no_marks, marks_in_regions, Run, Asks, Request}
use Rattle.sre_machine.specs.Terms.{start_of, run_of, AreIdle, MarklessRegions, Point, EndsTable, Kept, Laid, HoldsNone}
use Rattle.sre_machine.specs.Terms.{kept_of, backs, refers, place_under, EndsRight, HoldsNoEnd, Remembers, Grows}
use Rattle.sre_machine.specs.Terms.{HasSlots, Roomy, NewRow, Capacity, HasRow}

-- failures, the marks under which they were kept, behind which mark none is asked for, and from which places on none is
pub record MarkedValue : Type 0 where
  pub marks : Marks
  pub end : ℕ
  pub kept : Kept
  pub idle : List Bool

abbrev pub marked_of : List (Option ℕ) → ℕ → Kept → List Bool → MarkedValue
marked_of raw end k idle =
    record { marks = record { raw = raw; last = negsuc 0 }; end = end; kept = k; idle = idle }

-- the marks of each group that is asked for stand before an end
abbrev pub Covers : List ℕ → ℕ → Type 0
Covers ws end = (g : ℕ) → Asks ws g → 2 * g + 1 < end

-- the failures; those that are kept while marks are set which are asked for; where bodies of regions end, and whether
-- such ends are kept; from which position on failures are kept; how many steps are left before the next look, and how
-- many were taken up to that look; how many turns a search within turns goes on without failures; whether failures are
-- kept by now; and whether no more are, since memory was refused for a place
pub record MemoValue : Type 0 where
  pub kept : Kept
  pub marked : MarkedValue
  pub ends : EndsTable
  pub keeps_ends : Bool
  pub first : ℕ
  pub patience : ℕ
  pub waited : ℕ
  pub waits : ℕ
  pub is_open : Bool
  pub stopped : Bool

abbrev pub has_refusal : {R : Type 0} → Option R → Bool
has_refusal None = false
has_refusal (Some r) = true

abbrev pub memo_of : {R : Type 0} → Kept → MarkedValue → EndsTable → Bool → ℕ → ℕ → ℕ → ℕ → Bool → Option R
    → MemoValue
memo_of k m e h f p w t o r = record {
  kept = k;
  marked = m;
  ends = e;
  keeps_ends = h;
  first = f;
  patience = p;
  waited = w;
  waits = t;
  is_open = o;
  stopped = has_refusal r;
}

-- each spot that is kept is hopeless: under no marks, or under those that are kept with it, as far as they are asked
-- for; what is told of places from which none is is so; and each end that is kept is right, and kept only where no
-- region of the words sets a mark
pub record Recalled (r : Run) (k : Kept) (m : MarkedValue) (e : EndsTable) (h : Bool) : Type 0 where
  pub plain : Remembers r no_marks k
  pub marked : Remembers r m.marks m.kept
  pub covers : Covers r.words m.end
  pub idle : AreIdle r.words m.idle
  pub ends : EndsRight r k e
  pub markless : h ≡ true → MarklessRegions r.words

abbrev pub Recalls : Run → MemoValue → Type 0
Recalls r m = Recalled r m.kept m.marked m.ends m.keeps_ends

-- what is kept under marks is as it was, whatever is told of places
abbrev pub MarkedStays : MarkedValue → MarkedValue → Type 0
MarkedStays m m' = (m'.marks ≡ m.marks) × (m'.kept ≡ m.kept)

-- the failures are as they were
abbrev pub FailuresStay : MemoValue → MemoValue → Type 0
FailuresStay m m' = (m'.kept ≡ m.kept) × (m'.marked ≡ m.marked)

-- the ends are as they were, and from which position on failures are kept
abbrev pub EndsStay : MemoValue → MemoValue → Type 0
EndsStay m m' = (m'.ends ≡ m.ends) × (m'.keeps_ends ≡ m.keeps_ends) × (m'.first ≡ m.first)

-- the same for a request
abbrev pub RecallsOf : {S : Type 0} {text : Ghosts S} → Request S text → MemoValue → Type 0
RecallsOf r m = Recalls (run_of r) m

-- room was made for the failures of a point with the loops at these places, for the positions from first to end, unless
-- no more are kept: nothing that was kept is lost, and no more is
pub record MakesRoom (ws : List ℕ) (first end : ℕ) (pt : Point) (js : List ℕ) (m m' : MemoValue) : Type 0 where
  pub grows : Grows m.kept m'.kept
  pub laid : Laid m'.kept
  pub roomy : (n : ℕ) → HasSlots ws js n → Roomy ws n first end m.kept → Roomy ws n first end m'.kept
  pub rows : NewRow ws first end pt js m.kept m'.kept
  pub there : m'.stopped ≡ false → (n : ℕ) → place_under pt js ≡ Some n → Capacity ws first end n js m.kept
      → HasRow m'.kept n

-- nothing is kept, and it is not known which groups are asked for: so it is where a search begins
pub record IsBlank (k : Kept) (m : MarkedValue) (e : EndsTable) (h : Bool) : Type 0 where
  pub none : HoldsNone k
  pub empty : k ≡ kept_of [] [] []
  pub unmarked : HoldsNone m.kept
  pub end : m.end ≡ 2 ^ 64 - 1
  pub idle : m.idle ≡ []
  pub ends : HoldsNoEnd e
  pub closed : h ≡ false

abbrev pub IsBlankMemo : MemoValue → Type 0
IsBlankMemo m = IsBlank m.kept m.marked m.ends m.keeps_ends

-- a memo that keeps failures has no step to wait for, and one that was not used is blank
pub record IsMemo (opened used : Bool) (patience : ℕ) (k : Kept) (m : MarkedValue) (e : EndsTable) (h : Bool)
    : Type 0 where
  pub patient : opened ≡ true → patience ≡ 0
  pub blank : used ≡ false → IsBlank k m e h

-- a memo at the begin of a search in a window: no failures are kept yet, and none are for some turns a character
pub record Begins (start end : ℕ) (m : MemoValue) : Type 0 where
  pub closed : m.is_open ≡ false
  pub waits : m.waits ≤ 32 * (end - start + 1)

-- ends of bodies are kept of words that do not refer to groups, and whose regions set no mark
abbrev pub KeepsEndsOf : {S : Type 0} {text : Ghosts S} → Request S text → MemoValue → Type 0
KeepsEndsOf r m =
    (t : Tree) → WholeItems (run_of r).words t → refers t ≡ false → marks_in_regions t ≡ false → m.keeps_ends ≡ true

-- from which position on failures are kept of a tree's words: as far before the window as its looks may go back
abbrev pub first_kept : {S : Type 0} {text : Ghosts S} → Request S text → Tree → ℕ
first_kept r t = start_of r - backs t

-- so it is of words that do not refer to groups
abbrev pub KeepsFrom : {S : Type 0} {text : Ghosts S} → Request S text → MemoValue → Type 0
KeepsFrom r m = (t : Tree) → WholeItems (run_of r).words t → refers t ≡ false → m.first ≡ first_kept r t
