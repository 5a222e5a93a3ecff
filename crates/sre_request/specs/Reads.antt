-- What is read of a request's words and text: a word, a test, a character, and stretches of characters.
-- Definitions for the request's contracts; what sre_engine makes public does not rest on it.
use Rattle.std.specs.Prelude.{not, ℕ, ◌+◌, ◌-◌, ◌≡◌, ◌≢◌, ◌<◌, ◌≤◌, Bool, cond, nat_eq, length}
use Rattle.sre_request.specs.Terms.{Ghosts, StringCursor, Test, holds, Word, TestStands}
use Rattle.sre_model.specs.LeadingRuns.{Ended}
use Rattle.sre_request.specs.declared.request.Request.{Request}
use Rattle.sre_request.specs.Runs.{run_of, Standing}
use Rattle.sre_request.specs.declared.runs.Stretch.{Stretch}
use Rattle.sre_model.specs.Subject.{char_at}

-- a word stands at a place; which one
abbrev pub HasWordAt : {S : Type 0} {text : Ghosts S} → Request S text → ℕ → Type 0
HasWordAt r place = place < length (run_of r).words

abbrev pub WordAt : {S : Type 0} {text : Ghosts S} → Request S text → ℕ → ℕ → Type 0
WordAt r place word = Word (run_of r).words place word

-- which test stands at a place, up to where, and whether it takes a character
abbrev pub TestStandsAt : {S : Type 0} {text : Ghosts S} → Request S text → ℕ → ℕ → Test → Type 0
TestStandsAt r place end test = TestStands (run_of r).words place end test

abbrev pub test_takes : {S : Type 0} {text : Ghosts S} → Request S text → Test → ℕ → Bool
test_takes r test character = holds (run_of r).subject.table test character

-- which character stands at a position
abbrev pub character_at : {S : Type 0} {text : Ghosts S} → Request S text → ℕ → ℕ
character_at r position = char_at (run_of r).subject position

-- a stretch from a cursor on is the longest, of at most so many characters, of which the test at a place says what is
-- wanted
abbrev pub IsLongest : {S : Type 0} {text : Ghosts S} → Request S text → ℕ → Bool → ℕ → StringCursor → Stretch
    → Type 0
IsLongest r place wanted most start stretch =
    Ended (run_of r) place wanted most start stretch.end stretch.count

-- the test at a place says what is wanted of each character but one, and otherwise of that one
abbrev pub SaysOtherwiseOf : {S : Type 0} {text : Ghosts S} → Request S text → ℕ → Bool → ℕ → Type 0
SaysOtherwiseOf r place wanted other =
    (j c : ℕ) (t : Test) → TestStandsAt r place j t → test_takes r t c ≡ cond (nat_eq c other) (not wanted) wanted

-- a stretch from a cursor on goes up to the next such character, or has as many characters as it may, of which none is
-- such
pub record GoesUpTo {S : Type 0} {text : Ghosts S} (r : Request S text) (character most : ℕ) (start : StringCursor)
    (stretch : Stretch) : Type 0 where
  pub within : stretch.count ≤ most
  pub position : stretch.end.position ≡ start.position + stretch.count
  pub stands : Standing r stretch.end
  pub others : (q : ℕ) → start.position ≤ q → q < stretch.end.position → character_at r q ≢ character
  pub there : stretch.count < most → character_at r stretch.end.position ≡ character

-- a stretch that continues one of so many characters up to a cursor goes up to the next such character, or has as many
-- characters as it may, of which none behind that cursor is such
pub record GoesOnTo {S : Type 0} {text : Ghosts S} (r : Request S text) (character most count : ℕ)
    (near : StringCursor) (stretch : Stretch) : Type 0 where
  pub longer : count ≤ stretch.count
  pub far : GoesUpTo r character (most - count) near (record { count = stretch.count - count; end = stretch.end })
