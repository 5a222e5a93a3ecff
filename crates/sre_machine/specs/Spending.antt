-- What steps take off those that are left, if they are limited, and what a run of them costs.
-- Definitions for the machine's contracts; what sre_engine makes public does not rest on it.
use Rattle.std.specs.Prelude.{ℕ, ◌≡◌, Bool, true, false, ◌+◌, ◌-◌, ◌*◌, ◌≤◌, ◌⊎◌, Option, None, Some, List, Result, Ok}
use Rattle.std.specs.Prelude.{Err, IfOk, IfErr}
use Rattle.sre_machine.specs.Terms.{Refused, Ghosts, StringCursor, Tree, Way, WholeItems, behind_items, turns_of}
use Rattle.sre_machine.specs.Terms.{most_each, BoardValue, Limit, raised, Decides, Stands, StandsWithin, outcomes, Next}
use Rattle.sre_machine.specs.Terms.{Request, asked_of, run_of}
use Rattle.std.specs.declared.alloc.Allocator.{Ghosts as Memory}
use Rattle.sre_machine.specs.declared.allowance.Allowance.{Allowance}
use Rattle.sre_machine.specs.declared.allowance.Allowance.TheVariants.{Unlimited, Turns}
use Rattle.sre_machine.specs.declared.turns.Halt.{Halt}
use Rattle.sre_machine.specs.declared.turns.Halt.TheVariants as halt
use Rattle.sre_machine.specs.Memos.{MemoValue, Recalls}
use Rattle.sre_machine.specs.Paying.{Settles, RunStops, RunSettles, AnewStops, AnewSettles, IfDecided, Pays}
use Rattle.sre_machine.specs.Paying.{Remembering, Waited, each_of}
use Rattle.sre_machine.specs.declared.turns.Decision.{Decision}
use Rattle.sre_machine.specs.declared.turns.Decision.TheVariants.{Decided, Opened}
use Rattle.sre_machine.specs.declared.turns.Ending.{Ending}
use Rattle.sre_machine.specs.declared.turns.Ending.TheVariants.{Found, Failed}
use Rattle.sre_machine.specs.declared.turns.Ending.TheVariants as ways

abbrev pub is_limited : Allowance → Bool
is_limited Unlimited = false
is_limited (Turns left) = true

-- how many turns are left; none are counted where they are not limited
abbrev pub left_of : Allowance → ℕ
left_of Unlimited = 0
left_of (Turns left) = left

-- why a run is given up: an allocation failed, or its turns are limited and used up
abbrev pub Halted : {M : Type 0} {memory : Memory M} → Allowance → Halt M memory → Type 0
Halted {M} allowed (halt.Refused refusal) = Refused M
Halted allowed halt.UsedUp = (is_limited allowed ≡ true) × (left_of allowed ≡ 0)

-- the end of an accepted outcome, where there is one
abbrev pub end_if : Bool → StringCursor → Option StringCursor
end_if true end = Some end
end_if false end = None

-- how a run ended, as a decision with the end that was found
abbrev pub decision_of : Ending → StringCursor → Decision
decision_of Found end = Decided (Some end)
decision_of Failed end = Decided None
decision_of ways.Opened end = Opened

-- the same of what a run tells, and of whether there is an accepted way
abbrev pub told_of : {E : Type 0} → Result Ending E → StringCursor → Result Decision E
told_of (Ok e) end = Ok (decision_of e end)
told_of (Err why) end = Err why

abbrev pub found_of : {E : Type 0} → Result Bool E → StringCursor → Result (Option StringCursor) E
found_of (Ok found) end = Ok (end_if found end)
found_of (Err why) end = Err why

-- turns are taken off those that are left, and are used up only where they are limited and none is left
pub record Spends {T M : Type 0} {memory : Memory M} (told : Result T (Halt M memory)) (a a' : Allowance) : Type 0 where
  pub limited : is_limited a' ≡ is_limited a
  pub fewer : left_of a' ≤ left_of a
  pub used : IfErr told (λ why. why ≡ halt.UsedUp → (is_limited a ≡ true) × (left_of a' ≡ 0))

-- turns end before the whole is decided only where they are limited and no failure is kept
abbrev pub OpensLimited : {E : Type 0} → Result Decision E → MemoValue → Allowance → Type 0
OpensLimited told m a = IfOk told (λ d. d ≡ Opened → (is_limited a ≡ true) × (m.is_open ≡ false))

-- turns tell the first accepted outcome, with its end and its marks, or they end before
pub record TurnsDecide {E S : Type 0} {text : Ghosts S} (r : Request S text) (all : List Way)
    (told : Result Decision E) (b : BoardValue) (m : MemoValue) (a : Allowance) : Type 0 where
  pub found : IfOk told (λ d. IfDecided d (λ found. Decides (run_of r) all found b.marks))
  pub opened : OpensLimited told m a

-- the same of a run of what follows some literals
pub record RunDecides {E S : Type 0} {text : Ghosts S} (r : Request S text) (literals start : ℕ)
    (told : Result Decision E) (b : BoardValue) (m : MemoValue) (a : Allowance) : Type 0 where
  pub found : (t : Tree) → WholeItems (run_of r).words t → IfOk told (λ d. IfDecided d
      (λ found. Decides (run_of r) (outcomes (run_of r) (behind_items literals t) start) found b.marks))
  pub opened : OpensLimited told m a

-- what turns cost by their limit, and by what failed in them where there is no outcome
pub record TurnsCost {M S : Type 0} {memory : Memory M} {text : Ghosts S} (r : Request S text) (all : List Way)
    (limit : ℕ) (first : Next) (b : BoardValue) (m m' : MemoValue) (before : ℕ)
    (told : Result Decision (Halt M memory)) (a a' : Allowance) : Type 0 where
  pub spent : left_of a ≤ left_of a' + (limit + 1) * most_each (asked_of r)
  pub settles : is_limited a ≡ true → IfOk told
      (λ d. d ≡ Decided None → Settles M r all first b m m' before (left_of a) (left_of a'))

-- what a run costs from a cursor behind some literals
pub record RunCosts {M S : Type 0} {memory : Memory M} {text : Ghosts S} (r : Request S text) (literals : ℕ)
    (start : StringCursor) (m m' : MemoValue) (told : Result Decision (Halt M memory)) (a a' : Allowance) :
    Type 0 where
  pub spent : (t : Tree) → WholeItems (run_of r).words t → left_of a ≤ left_of a'
      + turns_of (run_of r).subject (behind_items literals t) start.position * most_each (asked_of r)
  pub stops : is_limited a ≡ true → RunStops M r start m (left_of a) (left_of a')
  pub settles : is_limited a ≡ true
      → IfOk told (λ d. d ≡ Decided None → RunSettles M r start m m' (left_of a) (left_of a'))
  pub waited : is_limited a ≡ true → m.is_open ≡ false → left_of a ≤ left_of a' + m.waits

-- and of a run that begins again, with failures kept, of which there are none yet
pub record AnewCosts {M S : Type 0} {memory : Memory M} {text : Ghosts S} (r : Request S text) (literals : ℕ)
    (start : StringCursor) (m' : MemoValue) (told : Result (Option StringCursor) (Halt M memory))
    (a a' : Allowance) : Type 0 where
  pub spent : (t : Tree) → WholeItems (run_of r).words t → left_of a ≤ left_of a'
      + turns_of (run_of r).subject (behind_items literals t) start.position * most_each (asked_of r)
  pub stops : is_limited a ≡ true → AnewStops M r start (left_of a) (left_of a')
  pub settles : is_limited a ≡ true
      → IfOk told (λ found. found ≡ None → AnewSettles M r start m' (left_of a) (left_of a'))

-- what holds in the loop with a memo, so many steps later: where the machine stands; all credits are paid, with what
-- scans are charged; what was taken off the limit and the memo's wait. While failures are memoized each step counts for
-- so much, beside scans, of which the last is still pending; if they are not memoized any more, an allocation failed
pub record TurnsSoFar (M : Type 0) {S : Type 0} {text : Ghosts S} (r : Request S text) (all : List Way) (most : ℕ)
    (first next : Next) (b b' : BoardValue) (m m' : MemoValue) (before turned : ℕ) (a a' : Allowance)
    (waits : Bool) (pending : ℕ) : Type 0 where
  pub stands : StandsWithin (run_of r) all (most - turned) next b'
  pub scans : ℕ
  pub each : (limit : Limit) → Stands (run_of r) all limit first b
      → (more : Limit) × Stands (run_of r) all more next b' × (limit.granted ≡ more.granted)
      × (limit.start ≡ more.start) × (more.taken + before ≡ limit.taken + turned)
      × Pays M r m limit m' (raised scans more)
  pub within : turned ≤ most
  pub limited : is_limited a' ≡ is_limited a
  pub fewer : left_of a' ≤ left_of a
  pub spent : left_of a ≤ left_of a' + turned * most_each (asked_of r)
  pub counts : m.is_open ≡ true → Refused M ⊎ ((m'.is_open ≡ true)
      × ((pl : Remembering r) → left_of a + pending ≤ left_of a' + turned * each_of r pl + scans))
  pub waited : waits ≡ true → Waited m m' (left_of a) (left_of a')
  pub remembers : Recalls (run_of r) m'
