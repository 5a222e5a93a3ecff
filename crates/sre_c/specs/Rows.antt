-- How far an iteration of a request is written.
-- Definitions for the contracts inside this crate; what it makes public does not rest on it.
use Rattle.std.specs.Prelude.{ℕ, ◌≡◌, ◌≤◌, ◌<◌, ◌+◌, ◌*◌, ◌⊎◌, List, [], length, take, Bool, false, Option, Some, None}
use Rattle.std.specs.Prelude.{Result, Ok, OnErr, slice_index}
use Rattle.sre_c.specs.Terms.{Global, Tree, Whole, Marks, found, walk, Refused, words_of, start_of, end_of, code_of}
use Rattle.sre_c.specs.Terms.{asked_of, KeepsToSteps, SreError, Shown, match_with, Ghosts, AreEnough, runs_of, Request}
use Rattle.sre_c.specs.Terms.{Stepped, given_up, GoesOnBehind, Status, No, Yes, StepLimit, Memory, NoCode, NoRoom}
use Rattle.sre_c.specs.Terms.{NotUtf8, FaultyTable}
use Rattle.sre_c.specs.declared.types.SreWalked.{SreWalked}
use Rattle.sre_c.specs.Walked.{IsRow, IsWritten}
use Rattle.sre_c.specs.Answered.{no_limit, KeepsBudget, KeepBudget}

-- the matches of a request are those that are written, and those of the one that is asked next
pub record IsSoFar {S : Type 0} {text : Ghosts S} (first next : Request S text) (width : ℕ) (w : SreWalked)
    (rows : List ℕ) : Type 0 where
  pub written : (t : Tree) → Whole (words_of (code_of first)) t
      → IsWritten (walk (asked_of first) t) (walk (asked_of next) t) width w rows
  pub code : code_of next ≡ code_of first
  pub same : asked_of next ≡ record (asked_of first) { start = w.start; must_advance = w.must_advance }
  pub inside : w.start ≤ end_of first

-- what the searches for so many first matches of a request leave of the steps
pub record RowsKeep {S : Type 0} {text : Ghosts S} (first : Request S text) (count given left : ℕ) : Type 0 where
  pub each : (t : Tree) → Whole (words_of (code_of first)) t
      → KeepBudget (words_of (code_of first)) (asked_of first) (take count (walk (asked_of first) t)) given left

-- what the last search leaves, which found no match, or exceeded the step limit
abbrev pub LastKeeps : {S : Type 0} {text : Ghosts S}
    → Request S text → Request S text → SreWalked → Option Bool → Type 0
LastKeeps first next w told =
    KeepsBudget (words_of (code_of first)) (asked_of next) (end_of next) (Ok told) w.steps_before w.steps

-- what the searches for more matches leave, the searches for these and for so many first ones leave together
pub record RowsGoOn {S : Type 0} {text : Ghosts S} (first next : Request S text) (count given left : ℕ) : Type 0 where
  pub each : (t : Tree) → Whole (words_of (code_of first)) t → (more n : ℕ)
      → KeepBudget (words_of (code_of first)) (asked_of next) (take more (walk (asked_of next) t)) left n
      → KeepBudget (words_of (code_of first)) (asked_of first) (take (count + more) (walk (asked_of first) t)) given n

-- what a status says of rows that are written
abbrev pub WritesRows : {S : Type 0} {text : Ghosts S}
    → Status → Request S text → Request S text → ℕ → ℕ → SreWalked → List ℕ → Type 0
WritesRows No first next steps width w rows =
    ((t : Tree) → Whole (words_of (code_of first)) t → IsWritten (walk (asked_of first) t) [] width w rows)
    × IsSoFar first next width w rows × RowsKeep first w.count steps w.steps_before
    × LastKeeps first next w (Some false)
WritesRows NoRoom first next steps width w rows =
    IsSoFar first next width w rows × ((width ≡ 0) ⊎ (length rows < w.count * width + width))
    × RowsKeep first w.count steps w.steps
WritesRows StepLimit first next steps width w rows =
    IsSoFar first next width w rows × (w.steps ≡ 0)
    × (AreEnough (asked_of next) (code_of next) w.steps_before → Refused Global)
    × (w.count ≡ 0 → w.steps_before ≡ steps)
    × RowsKeep first w.count steps w.steps_before × LastKeeps first next w None
WritesRows Memory first next steps width w rows =
    Refused Global × IsSoFar first next width w rows × RowsKeep first w.count steps w.steps_before
WritesRows Yes first next steps width w rows = ⊥
WritesRows NoCode first next steps width w rows = ⊥
WritesRows NotUtf8 first next steps width w rows = ⊥
WritesRows FaultyTable first next steps width w rows = ⊥

-- rows that an iteration has written so far, with what its searches leave of the steps
pub record AreWritten {S : Type 0} {text : Ghosts S} (first next : Request S text) (width given : ℕ) (w : SreWalked)
    (rows : List ℕ) : Type 0 where
  pub so_far : IsSoFar first next width w rows
  pub fewer : w.steps ≤ given
  pub untaken : w.count ≡ 0 → w.steps ≡ given
  pub unlimited : given ≡ no_limit → w.steps ≡ given
  pub kept : RowsGoOn first next w.count given w.steps

-- the same after one more row; or what a status says, for which there is none
abbrev pub NextIs : {S : Type 0} {text : Ghosts S} → Option Status
    → Request S text → Request S text → ℕ → ℕ → SreWalked → List ℕ → Type 0
NextIs None first next width given w rows = AreWritten first next width given w rows
NextIs (Some status) first next width given w rows =
    WritesRows status first next given width w rows × (w.steps ≤ given) × (given ≡ no_limit → w.steps ≡ given)

-- what the search for the next match says, and what it leaves of the steps
pub record Searched {S : Type 0} {text : Ghosts S} (r : Request S text) (told : Result (Option Bool) SreError)
    (s : Shown) (next : Request S text) (given left : ℕ) : Type 0 where
  pub stepped : Stepped r (given_up told) s next
  pub again : s.restarted ≤ s.started
  pub refused : OnErr told (Refused Global)
  pub spent : KeepsToSteps Global (asked_of r) (code_of r) told (runs_of s) given left
  pub unlimited : given ≡ no_limit → left ≡ given

-- one more row of each iteration that has written rows so far
pub record WritesNext {S : Type 0} {text : Ghosts S} (status : Option Status) (r next : Request S text) (width : ℕ)
    (w u : SreWalked) (old new : List ℕ) : Type 0 where
  pub each : (first : Request S text) (given : ℕ) → AreWritten first r width given w old
      → NextIs status first next width given u new

-- the same of rows after which some request is next
abbrev pub Writes : {S : Type 0} {text : Ghosts S} → Status → Request S text → ℕ → ℕ → SreWalked → List ℕ → Type 0
Writes {S = S} {text = text} status first steps width w rows =
    (next : Request S text) × WritesRows status first next steps width w rows

-- the next match is written in a row of so many numbers, from a place on, and no number before it changes
pub record WritesSpan {S : Type 0} {text : Ghosts S} (r next : Request S text) (at width : ℕ) (old new : List ℕ)
    : Type 0 where
  pub start : ℕ
  pub goes_on : GoesOnBehind r start (start_of next) next
  pub row : (t : Tree) → Whole (words_of (code_of r)) t → (marks : Marks)
      × (found (asked_of r) t ≡ Some (match_with start (start_of next) marks))
      × IsRow (match_with start (start_of next) marks) at width new
  pub before : (i : ℕ) → i < at → slice_index new i ≡ slice_index old i
