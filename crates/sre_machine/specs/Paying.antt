-- How the credits are paid that are granted for instructions which may branch, while failures are memoized: by bits
-- that the memo takes in, each of which pays for all ends of a repeat with a greatest count. And what steps cost before
-- that: each is one of those for which the memo waits.
-- Definitions for the machine's contracts; what sre_engine makes public does not rest on it.
use Rattle.std.specs.Prelude.{ℕ, ◌+◌, ◌-◌, ◌*◌, ◌≤◌, ◌≡◌, ◌⊎◌, ⊤, List, [], ◌∷◌, Bool, true, false, Option, ◌/◌, min}
use Rattle.sre_machine.specs.Terms.{Ghosts, StringCursor, Refused, Run, Limit, Counted, Way, marks_in_regions}
use Rattle.sre_machine.specs.Terms.{BoardValue, Stands, Next, EndsTable, Kept, Request, start_of, end_of, run_of}
use Rattle.sre_machine.specs.Terms.{AllByRecursion, most_steps, longest_lookbehind, has_forked_region, Attempt, Account}
use Rattle.sre_machine.specs.Terms.{Room, most_paid}
use Rattle.sre_machine.specs.Memos.{MemoValue, first_kept}
use Rattle.sre_machine.specs.declared.turns.Decision.{Decision}
use Rattle.sre_machine.specs.declared.turns.Decision.TheVariants.{Decided, Opened}

-- how many characters the range has
abbrev pub window_of : {S : Type 0} {text : Ghosts S} → Request S text → ℕ
window_of r = end_of r - start_of r

-- the steps of the words are counted, where an atomic scope forks none sets a capture slot, and there is room for the
-- bits of all their addresses
pub record Remembering {S : Type 0} {text : Ghosts S} (r : Request S text) : Type 0 where
  pub plain : Counted (run_of r)
  pub unmarked : has_forked_region plain.tree ≡ true → marks_in_regions plain.tree ≡ false
  pub room : Room (run_of r) plain (first_kept r plain.tree)
  pub order : start_of r ≤ end_of r

-- from which position on failures are memoized
abbrev pub rows_from : {S : Type 0} {text : Ghosts S} (r : Request S text) → Remembering r → ℕ
rows_from r pl = first_kept r pl.plain.tree

-- the memory has taken in so many bits, of which some are those of what is tried; where an atomic scope forks it keeps
-- ends of bodies, and else nothing is tried inside an atomic scope
pub record HoldsIn {S : Type 0} {text : Ghosts S} (r : Request S text) (pl : Remembering r) (k : Kept) (es : EndsTable)
    (from : ℕ) (keeps_ends : Bool) (xs : List Attempt) (n : ℕ) : Type 0 where
  pub account : Account (run_of r) pl.plain (rows_from r pl) k es xs n
  pub first : from ≡ rows_from r pl
  pub ends : has_forked_region pl.plain.tree ≡ true → keeps_ends ≡ true
  pub forked : AllByRecursion (λ (a : Attempt). a.inside ≡ true → has_forked_region pl.plain.tree ≡ true) xs

abbrev pub Holds : {S : Type 0} {text : Ghosts S} (r : Request S text) → Remembering r → MemoValue → List Attempt → ℕ
    → Type 0
Holds r pl m xs n = HoldsIn r pl m.kept m.ends m.first m.keeps_ends xs n

-- the same of what is tried under a limit
abbrev pub Holding : {S : Type 0} {text : Ghosts S} (r : Request S text) → Remembering r → MemoValue → Limit → ℕ
    → Type 0
Holding r pl m l n = Holds r pl m l.trying n

-- for how many a step counts at most while failures are memoized, beside what its scan is charged
abbrev pub each_of : {S : Type 0} {text : Ghosts S} (r : Request S text) → Remembering r → ℕ
each_of r pl = 1 + min (longest_lookbehind pl.plain.tree) (end_of r) / 8

-- from one memo and limit to another the credits are paid, if failures were memoized and no allocation failed meanwhile
pub record Pays (M : Type 0) {S : Type 0} {text : Ghosts S} (r : Request S text) (m : MemoValue) (l : Limit)
    (m' : MemoValue)
    (l' : Limit) : Type 0 where
  pub paid : (pl : Remembering r) → m.is_open ≡ true → l.start ≡ start_of r → (n : ℕ) → Holding r pl m l n
      → Refused M ⊎ ((n' : ℕ) × Holding r pl m' l' n' × (m'.is_open ≡ true)
      × (l'.tolls + n ≤ l.tolls + n'))

-- no more steps were taken than the potential allows
abbrev pub Within : Run → Limit → Type 0
Within r l = l.taken ≤ l.granted + l.tolls

-- what was taken in is held still, and the newest that was tried is tried no more
abbrev pub HoldsTried : {S : Type 0} {text : Ghosts S} → Request S text → Attempt → Kept → Kept → Type 0
HoldsTried r x k k' =
    (pl : Remembering r) (es : EndsTable) (xs : List Attempt) (n : ℕ)
    → Account (run_of r) pl.plain (rows_from r pl) k es (x ∷ xs) n
    → Account (run_of r) pl.plain (rows_from r pl) k' es xs n

-- failures were not memoized, and each step that was taken was waited for
pub record Waited (m m' : MemoValue) (left left' : ℕ) : Type 0 where
  pub closed : m'.is_open ≡ false
  pub turns : left + m'.waits ≤ left' + m.waits

-- however steps ended: how many there were at most, where no allocation failed; where failures were not memoized at
-- first, each was waited for
pub record Stops (M : Type 0) {S : Type 0} {text : Ghosts S} (r : Request S text) (all : List Way) (first : Next)
    (b : BoardValue)
    (m : MemoValue) (before left left' : ℕ) : Type 0 where
  pub cost : (pl : Remembering r) → m.is_open ≡ true → (limit : Limit) → Stands (run_of r) all limit first b
      → limit.start ≡ start_of r → limit.taken ≡ before → (n : ℕ) → Holding r pl m limit n
      → Refused M ⊎ ((tolls : ℕ)
      × (tolls + n ≤ limit.tolls + most_paid (run_of r) pl.plain (rows_from r pl))
      × (left ≤ left' + (limit.granted + tolls + 1) * each_of r pl))
  pub waited : m.is_open ≡ false → left ≤ left' + m.waits

-- steps by which the whole was decided, with no outcome: the same, and what the memory holds then
pub record Settles (M : Type 0) {S : Type 0} {text : Ghosts S} (r : Request S text) (all : List Way) (first : Next)
    (b : BoardValue)
    (m m' : MemoValue) (before left left' : ℕ) : Type 0 where
  pub cost : (pl : Remembering r) → m.is_open ≡ true → (limit : Limit) → Stands (run_of r) all limit first b
      → limit.start ≡ start_of r → limit.taken ≡ before → (n : ℕ) → Holding r pl m limit n
      → Refused M ⊎ ((tolls n' : ℕ)
      × (tolls + n ≤ limit.tolls + n')
      × Holds r pl m' [] n' × (m'.is_open ≡ true)
      × (left ≤ left' + (limit.granted + tolls + 1) * each_of r pl))
  pub waited : m.is_open ≡ false → Waited m m' left left'

-- what a run counts for at most, by the credits that are granted to it
abbrev pub run_cost : {S : Type 0} {text : Ghosts S} (r : Request S text) → Remembering r → ℕ → ℕ
run_cost r pl tolls = (1 + most_steps pl.plain.tree + tolls) * each_of r pl

-- the memory has taken in so many bits, and nothing is tried
abbrev pub HoldsBits : {S : Type 0} {text : Ghosts S} (r : Request S text) → Remembering r → MemoValue → ℕ → Type 0
HoldsBits r pl m n = Holds r pl m [] n

-- a run from a cursor, however it ended: how many steps it took at most, where no allocation failed
pub record RunStops (M : Type 0) {S : Type 0} {text : Ghosts S} (r : Request S text) (start : StringCursor)
    (m : MemoValue)
    (left left' : ℕ) : Type 0 where
  pub keeping : (pl : Remembering r) → start_of r ≤ start.position → m.is_open ≡ true → (n : ℕ) → HoldsBits r pl m n
      → Refused M
      ⊎ ((tolls : ℕ) × (tolls + n ≤ most_paid (run_of r) pl.plain (rows_from r pl))
      × (left ≤ left' + run_cost r pl tolls))
  pub closed : (pl : Remembering r) → start_of r ≤ start.position → m.is_open ≡ false
      → Refused M ⊎ ((tolls : ℕ) × (tolls ≤ most_paid (run_of r) pl.plain (rows_from r pl))
      × (left ≤ left' + m.waits + run_cost r pl tolls))

-- a run with no outcome: the same, and what the memory holds then; or failures were not memoized in it
pub record RunSettles (M : Type 0) {S : Type 0} {text : Ghosts S} (r : Request S text) (start : StringCursor)
    (m m' : MemoValue)
    (left left' : ℕ) : Type 0 where
  pub keeping : (pl : Remembering r) → start_of r ≤ start.position → m.is_open ≡ true → (n : ℕ) → HoldsBits r pl m n
      → Refused M ⊎ ((tolls n' : ℕ) × (tolls + n ≤ n') × HoldsBits r pl m' n'
      × (m'.is_open ≡ true) × (left ≤ left' + run_cost r pl tolls))
  pub closed : (pl : Remembering r) → start_of r ≤ start.position → m.is_open ≡ false
      → Refused M ⊎ (((m'.is_open ≡ false) × (left + m'.waits ≤ left' + m.waits))
      ⊎ ((tolls n' : ℕ) × (tolls ≤ n') × HoldsBits r pl m' n' × (m'.is_open ≡ true)
      × (left ≤ left' + m.waits + run_cost r pl tolls)))

-- a run that began again with failures memoized, of which there were none
pub record AnewStops (M : Type 0) {S : Type 0} {text : Ghosts S} (r : Request S text) (start : StringCursor)
    (left left' : ℕ) :
    Type 0 where
  pub cost : (pl : Remembering r) → start_of r ≤ start.position
      → Refused M ⊎ ((tolls : ℕ) × (tolls ≤ most_paid (run_of r) pl.plain (rows_from r pl))
      × (left ≤ left' + run_cost r pl tolls))

-- one with no outcome, and what the memory holds then
pub record AnewSettles (M : Type 0) {S : Type 0} {text : Ghosts S} (r : Request S text) (start : StringCursor)
    (m : MemoValue)
    (left left' : ℕ) : Type 0 where
  pub cost : (pl : Remembering r) → start_of r ≤ start.position
      → Refused M ⊎ ((tolls n : ℕ) × (tolls ≤ n) × HoldsBits r pl m n
      × (m.is_open ≡ true) × (left ≤ left' + run_cost r pl tolls))

-- what holds of what was decided
abbrev pub IfDecided : Decision → (Option StringCursor → Type 0) → Type 0
IfDecided (Decided found) P = P found
IfDecided Opened P = ⊤
