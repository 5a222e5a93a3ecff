-- Starts without a match: ruled out by what has to come first, or skipped after a start that has none.
-- Definitions for the search's contracts. What is public rests on `NoneUntil` and `StartFrom`, by `Starts::beyond`.
use Rattle.std.specs.Prelude.{ℕ, ◌≡◌, ◌<◌, ◌≤◌, ◌+◌, ◌-◌, ◌⊎◌, ◌||◌, cond, nat_le, Bool, true, false, List, Option}
use Rattle.std.specs.Prelude.{Some, None}
use Rattle.sre_engine.specs.Terms.{SreAtCode, AsciiSet, contains, StringCursor, Tree, WholeItems, Asked, at_start}
use Rattle.sre_engine.specs.Terms.{Subject, after, holds_at, Run, HasTest, NoWay, NotPassed, TreeStands, TakesAscii}
use Rattle.sre_engine.specs.declared.engine.first_characters.First.{First}
use Rattle.sre_engine.specs.declared.engine.first_characters.Wanted.{Wanted}
use Rattle.sre_engine.specs.declared.engine.first_characters.Wanted.TheVariants.{Anything, Test, Set, Characters}

-- a position code, where there is one, does not hold at a position
abbrev pub IsElsewhere : Subject → Option SreAtCode → ℕ → Type 0
IsElsewhere s None p = ⊥
IsElsewhere s (Some code) p = holds_at s code p ≡ false

-- no character of a set and none past ASCII is at a position
pub record NotAmong (s : Subject) (set : AsciiSet) (p : ℕ) : Type 0 where
  pub none : after s (λ c. nat_le 128 c || contains set c) p ≡ false

-- what is wanted is not at a position
abbrev pub IsLacking : List ℕ → Subject → Wanted → ℕ → Type 0
IsLacking ws s Anything p = ⊥
IsLacking ws s (Test place) p = NotPassed ws s place p
IsLacking ws s (Set place set) p = NotPassed ws s place p
IsLacking ws s (Characters set) p = NotAmong s set p

-- at a start fewer characters are before it than is looked back, or its code does not hold, or what is wanted so far
-- back is not there
abbrev pub Barred : List ℕ → Subject → First → ℕ → Type 0
Barred ws s first p = (p < first.back) ⊎ (IsElsewhere s first.at p ⊎ IsLacking ws s first.wanted (p - first.back))

-- from a start that is barred no tree of the words has a way
pub record Bars (ws : List ℕ) (first : First) : Type 0 where
  pub none : (t : Tree) → WholeItems ws t → (s : Subject) (p : ℕ) → Barred ws s first p → NoWay s t p

-- behind what stands at a place another tree is; where a test does not pass and that one has no way, nor has the whole
pub record PassesRun (ws : List ℕ) (whole : Tree) (test i : ℕ) : Type 0 where
  pub tree : Tree
  pub stands : TreeStands ws i tree
  pub none : (s : Subject) (p : ℕ) → NotPassed ws s test p → NoWay s tree p → NoWay s whole p

-- a test is at a place, and takes these ASCII characters
pub record IsSetThere (ws : List ℕ) (place : ℕ) (set : AsciiSet) : Type 0 where
  pub test : HasTest ws place
  pub taken : TakesAscii ws place set

-- where a test is wanted, one is at its place
abbrev pub TestsThere : List ℕ → Wanted → Type 0
TestsThere ws Anything = Unit {0}
TestsThere ws (Test place) = HasTest ws place
TestsThere ws (Set place set) = IsSetThere ws place set
TestsThere ws (Characters set) = Unit {0}

-- a cursor stands in the window, and up to it what is wanted is lacking from another one on
pub record WantedFrom (r : Run) (wanted : Wanted) (start cursor : StringCursor) : Type 0 where
  pub stands : r.stands cursor cursor.position
  pub from : start.position ≤ cursor.position
  pub inside : cursor.position ≤ r.subject.end
  pub each : (q : ℕ) → start.position ≤ q → q < cursor.position → IsLacking r.words r.subject wanted q

-- each start from one on is barred, up to and with the window's end
pub record AllBarred (r : Run) (first : First) (from : ℕ) : Type 0 where
  pub each : (q : ℕ) → from ≤ q → q ≤ r.subject.end → Barred r.words r.subject first q

-- a cursor stands in the window, and each start from one on is barred up to it
pub record BarredUpTo (r : Run) (first : First) (from : ℕ) (cursor : StringCursor) : Type 0 where
  pub stands : r.stands cursor cursor.position
  pub after : from ≤ cursor.position
  pub inside : cursor.position ≤ r.subject.end
  pub each : (q : ℕ) → from ≤ q → q < cursor.position → Barred r.words r.subject first q

-- the next start at which a match may begin, where there is one
abbrev pub NextStart : Run → First → ℕ → Option StringCursor → Type 0
NextStart r first from None = AllBarred r first from
NextStart r first from (Some cursor) = BarredUpTo r first from cursor

-- a cursor stands in the window behind a position, and a position code holds nowhere between them
pub record HeldFrom (r : Run) (code : SreAtCode) (p : ℕ) (cursor : StringCursor) : Type 0 where
  pub stands : r.stands cursor cursor.position
  pub behind : p < cursor.position
  pub inside : cursor.position ≤ r.subject.end
  pub each : (q : ℕ) → p < q → q < cursor.position → holds_at r.subject code q ≡ false

-- a position code holds nowhere behind a position, up to and with the window's end
pub record HeldNowhere (r : Run) (code : SreAtCode) (p : ℕ) : Type 0 where
  pub each : (q : ℕ) → p < q → q ≤ r.subject.end → holds_at r.subject code q ≡ false

-- the next position at which a position code may hold, where there is one
abbrev pub NextHeld : Run → SreAtCode → ℕ → Option StringCursor → Type 0
NextHeld r code p None = HeldNowhere r code p
NextHeld r code p (Some cursor) = HeldFrom r code p cursor

-- no start from p up to before q has a match
abbrev pub NoneBetween : Asked → Tree → ℕ → ℕ → Type 0
NoneBetween a t p q = (s : ℕ) → p ≤ s → s < q → at_start a t s ≡ None

-- no start from p up to before a cursor has one, or none in the window
abbrev pub NoneUntil : Asked → Tree → ℕ → Option StringCursor → Type 0
NoneUntil a t p None = NoneBetween a t p (a.end + 1)
NoneUntil a t p (Some next) = NoneBetween a t p next.position

-- a start that has no match is passed to a cursor behind it, if there is one: no start before the cursor has a match,
-- or none in the window
pub record PassesTo (r : Run) (a : Asked) (p : ℕ) (further : Bool) (cursor : StringCursor) : Type 0 where
  pub next : further ≡ true → (p < cursor.position) × (cursor.position ≤ a.end)
  pub stands : further ≡ true → r.stands cursor cursor.position
  pub none : (t : Tree) → WholeItems r.words t → at_start a t p ≡ None
      → NoneBetween a t p (cond further cursor.position (a.end + 1))

-- a cursor stands in the window, from a position on
pub record StartFrom (r : Run) (p : ℕ) (cursor : StringCursor) : Type 0 where
  pub stands : r.stands cursor cursor.position
  pub after : p ≤ cursor.position
  pub inside : cursor.position ≤ r.subject.end
