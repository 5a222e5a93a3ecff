-- The starts that a search tries, one after the other.
-- Definitions for the search's contracts; what sre_engine makes public does not rest on it.
use Rattle.std.specs.Prelude.{ℕ, ◌+◌, ◌-◌, ◌*◌, ◌^◌, ◌≡◌, ◌<◌, ◌≤◌, true, false, List, Option, Some, None, length}
use Rattle.std.specs.Prelude.{IfSome}
use Rattle.sre_engine.specs.Terms.{StringCursor, Tree, SetItem, Marks, Whole, WholeItems, Asked, Match, at_start}
use Rattle.sre_engine.specs.Terms.{RunStands, is_anchored, behind_items, Run, Decides, outcomes, AreTold, words_of}
use Rattle.sre_engine.specs.Terms.{hints_of, Code, ReadsBehind}
use Rattle.sre_engine.specs.Counts.{width_fits, may_start}
use Rattle.sre_engine.specs.Members.{IsFirstSet}
use Rattle.sre_engine.specs.Doubled.{IsDoubled}
use Rattle.sre_engine.specs.Prefixed.{IsPrefix}
use Rattle.sre_engine.specs.Scans.{Here, NoMatch}
use Rattle.sre_engine.specs.Starts.{Bars, TestsThere}
use Rattle.sre_engine.specs.declared.engine.candidates.Candidate.{Candidate}
use Rattle.sre_engine.specs.declared.engine.candidates.places.Places.{Places}
use Rattle.sre_engine.specs.declared.engine.candidates.members.Members.{Members}
use Rattle.sre_engine.specs.declared.engine.candidates.doubles.Doubles.{Doubles}
use Rattle.sre_engine.specs.declared.engine.candidates.openings.Openings.{Openings}

-- at a start a run may begin, if a confirmed width fits there
pub record MayBegin (a : Asked) (code : Code) (p : ℕ) : Type 0 where
  pub may : (set : List SetItem) → ((hints_of code).first_set ≡ true → IsFirstSet (words_of code) set)
      → width_fits a (hints_of code).width p ≡ true → may_start a (words_of code) (hints_of code) set p ≡ true

-- the next start to try from a front on, after so many comparisons: a run may begin there, its cursor stands behind
-- literals that are the text's characters, and what the machine decides behind these is the match
pub record IsCandidate (r : Run) (a : Asked) (code : Code) (front : ℕ) (c : Candidate) (compared : ℕ) : Type 0 where
  pub stands : r.stands c.cursor c.cursor.position
  pub behind : c.cursor.position ≡ c.start + c.literals
  pub inside : c.cursor.position ≤ a.end
  pub few : 2 * c.literals < 2 ^ 64
  pub none : NoMatch a code front c.start
  pub may : MayBegin a code c.start
  pub reads : (t : Tree) → WholeItems r.words t → ReadsBehind r.words c.literals t
  pub decides : (t : Tree) → Whole (words_of code) t → (end : Option StringCursor) (m : Marks)
      → Decides r (outcomes r (behind_items c.literals t) c.cursor.position) end m
      → Decides r (outcomes r t c.start) end m
  pub far : (t : Tree) → Whole (words_of code) t → (m : Match) → at_start a t c.start ≡ Some m
      → compared ≤ 2 * (m.end - a.start)

-- a search compared no character more than twice on average, and none where no prefix is confirmed
pub record ComparesFew (a : Asked) (code : Code) (compared : ℕ) : Type 0 where
  pub few : compared ≤ 2 * (a.end - a.start)
  pub none : (hints_of code).prefix ≡ None → compared ≡ 0

-- a start that was tried has no match
pub record Failed (a : Asked) (code : Code) (p : ℕ) : Type 0 where
  pub none : (t : Tree) → Whole (words_of code) t → at_start a t p ≡ None

-- the start at which a cursor stands, where no literal was compared
abbrev pub bare_candidate : StringCursor → Candidate
bare_candidate cursor = record { start = cursor.position; literals = 0; cursor = cursor }

-- a candidate is behind no literals
pub record IsBare (c : Candidate) : Type 0 where
  pub literals : c.literals ≡ 0
  pub start : c.cursor.position ≡ c.start

-- Along the places of a prefix

-- where a scan for a prefix goes on
abbrev pub place_of : Places → ℕ
place_of s = s.spot.cursor.position - s.spot.matched

-- it scans for a prefix that is not all of the code
pub record Scans (s : Places) (r : Run) (a : Asked) (code : Code) (compared : ℕ) : Type 0 where
  pub is : IsPrefix code s.prefix.now.words.now s.prefix.now.literals s.prefix.now.whole
  pub more : s.prefix.now.whole ≡ false
  pub stands : r.stands s.spot.cursor s.spot.cursor.position
  pub here : Here a.text s.prefix.now.words.now a.start a.end s.spot.cursor.position s.spot.matched compared

-- it is behind a place
pub record ScansBehind (s : Places) (r : Run) (a : Asked) (code : Code) (c : Candidate) (compared : ℕ) : Type 0 where
  pub scans : Scans s r a code compared
  pub matched : s.spot.matched ≡ length s.prefix.now.words.now
  pub start : c.start ≡ place_of s

-- Along the members of a first set

-- a first set is confirmed, its ASCII characters may be told, and the cursor stands
pub record Seeks (s : Members) (r : Run) (code : Code) (compared : ℕ) : Type 0 where
  pub set : (hints_of code).first_set ≡ true
  pub told : AreTold (words_of code) 5 s.told
  pub stands : r.stands s.start s.start.position
  pub none : compared ≡ 0

-- Along the starts at which a character comes twice

-- a match begins only at one of them, and the cursor stands
pub record SeeksDoubles (s : Doubles) (r : Run) (code : Code) (compared : ℕ) : Type 0 where
  pub doubled : IsDoubled r.words
  pub prefix : (hints_of code).prefix ≡ None
  pub stands : r.stands s.start s.start.position
  pub none : compared ≡ 0

-- Along the starts that what has to come first leaves

-- neither a prefix nor a first set is confirmed
pub record IsPlain (code : Code) (compared : ℕ) : Type 0 where
  pub prefix : (hints_of code).prefix ≡ None
  pub first_set : (hints_of code).first_set ≡ false
  pub none : compared ≡ 0

-- what was read of the code, and the cursor stands
pub record Reads (s : Openings) (r : Run) (code : Code) (compared : ℕ) : Type 0 where
  pub plain : IsPlain code compared
  pub test : TestsThere r.words s.first.wanted
  pub bars : Bars r.words s.first
  pub stands : r.stands s.start s.start.position
  pub lead : (t : Tree) → WholeItems r.words t
      → IfSome s.lead (λ run. RunStands r.words t run.first run.test)

-- the window's start alone

-- the code is anchored at the text's start
pub record IsAnchored (r : Run) (code : Code) (start : StringCursor) (compared : ℕ) : Type 0 where
  pub plain : IsPlain code compared
  pub stands : r.stands start start.position
  pub anchored : (t : Tree) → Whole (words_of code) t → is_anchored t ≡ true
