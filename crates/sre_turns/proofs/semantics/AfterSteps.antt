-- What comes of a configuration whose step is known: what comes of those to which it leads.
use Rattle.sre_turns.proofs.Terms.{◌≡◌, ℕ, suc, ◌+◌, ◌≤◌, List, [], ◌++◌, refl, sym, ap, ◌∙◌, subst, arith, Frame}
use Rattle.sre_turns.proofs.Terms.{Point, Spot, spot_at, Stop, Go, Split, Run, StringCursor, Marks, Subject, Way, Moves}
use Rattle.sre_turns.proofs.Terms.{Runs, turns, Comes, stops, goes, splits, HasRun, first}
use Rattle.sre_turns.proofs.semantics.OneTurn.{comes}

-- nothing, in one step
pub stopped : {ws : List ℕ} {s : Subject} {x : Spot} {os : List Way} {n : ℕ} → Moves ws s x Stop → Runs ws s x os n
    → (os ≡ []) × (n ≡ 1)
stopped {ws} {s} {x} h d = go (comes Stop h d)
  where
    go : {os : List Way} {n : ℕ} → Comes ws s x Stop os n → (os ≡ []) × (n ≡ 1)
    go stops = (refl, refl)

-- what comes of another, one step later
pub went : {ws : List ℕ} {s : Subject} {x y : Spot} {os : List Way} {n : ℕ} → Moves ws s x (Go y) → Runs ws s x os n
    → (k : ℕ) × (n ≡ k + 1) × Runs ws s y os k
went {ws} {s} {x} {y} h d = go (comes (Go y) h d)
  where
    go : {os : List Way} {n : ℕ} → Comes ws s x (Go y) os n → (k : ℕ) × (n ≡ k + 1) × Runs ws s y os k
    go (goes {n = k} e) = (k, omega arith, e)

pub run_on : {ws : List ℕ} {s : Subject} {x : Spot} {os : List Way} {n : ℕ} (y : Spot) → Moves ws s x (Go y)
    → Runs ws s x os n → (k : ℕ) × (k ≤ n) × Runs ws s y os k
run_on y h d = let c = went h d in (c.0, omega (arith, c.1), c.2)

-- so nothing comes of it where nothing comes of that one
pub nothing_after : {ws : List ℕ} {s : Subject} {x : Spot} {os : List Way} {n : ℕ} (y : Spot) → Moves ws s x (Go y)
    → ((os : List Way) (n : ℕ) → Runs ws s y os n → os ≡ []) → Runs ws s x os n → os ≡ []
nothing_after y h none d = let c = went h d in none _ c.0 c.2

-- what comes of one, and then of another
pub record Parted (ws : List ℕ) (s : Subject) (y z : Spot) (os : List Way) (n : ℕ) : Type 0 where
  pub now : List Way
  pub next : List Way
  pub both : os ≡ now ++ next
  pub turns : ℕ
  pub further : ℕ
  pub sum : n ≡ turns + further + 2
  pub runs : Runs ws s y now turns
  pub others : Runs ws s z next further

pub parted : {ws : List ℕ} {s : Subject} {x y z : Spot} {os : List Way} {n : ℕ} → Moves ws s x (Split y z)
    → Runs ws s x os n → Parted ws s y z os n
parted {ws} {s} {x} {y} {z} h d = go (comes (Split y z) h d)
  where
    go : {os : List Way} {n : ℕ} → Comes ws s x (Split y z) os n → Parted ws s y z os n
    go (splits {os₁ = os₁} {os₂ = os₂} {n₁ = n₁} {n₂ = n₂} e f) = record {
      now = os₁;
      next = os₂;
      both = refl;
      turns = n₁;
      further = n₂;
      sum = omega arith;
      runs = e;
      others = f;
    }

-- where nothing comes of the first, what comes of the second
pub run_second : {ws : List ℕ} {s : Subject} {x : Spot} {os : List Way} {n : ℕ} (y z : Spot) → Moves ws s x (Split y z)
    → ((os : List Way) (n : ℕ) → Runs ws s y os n → os ≡ []) → Runs ws s x os n
    → (k : ℕ) × (k ≤ n) × Runs ws s z os k
run_second {ws} {s} y z h none d =
    let c = parted h d in
    let same = c.both ∙ ap (λ us. us ++ c.next) (none c.now c.turns c.runs) in
    (c.further, omega (arith, c.sum), subst (λ us. Runs ws s z us c.further) (sym same) c.others)

-- what comes of a configuration is reached at a cursor that stands there
pub has_run : (r : Run) (pt : Point) (c : StringCursor) {fs : List Frame} {m : Marks} {os : List Way} {n : ℕ}
    → r.stands c c.position → Runs r.words r.subject (spot_at pt fs c.position m) os n → HasRun r pt c
has_run r pt c {fs} {m} {os} {n} there x =
    record { frames = fs; marks = m; outcomes = os; turns = n; stands = there; runs = x }

-- so both can be reached, wherever the step is made
pub both_run : (r : Run) (pt first second : Point) (c after : StringCursor)
    → ((fs : List Frame) (m : Marks) → Moves r.words r.subject (spot_at pt fs c.position m)
    (Split (spot_at first fs after.position m) (spot_at second fs after.position m)))
    → r.stands after after.position → HasRun r pt c → HasRun r first after × HasRun r second after
both_run r pt first second c after moves there x =
    let s = parted (moves x.frames x.marks) x.runs in
    (has_run r first after there s.runs, has_run r second after there s.others)

-- and the other way round
pub split : {ws : List ℕ} {s : Subject} {x y z : Spot} {all os us : List Way} {m n k : ℕ} → Moves ws s x (Split y z)
    → Runs ws s y os n → Runs ws s z us k → all ≡ os ++ us → m ≡ n + k + 2 → Runs ws s x all m
split {y = y} {z = z} {m = m} {n = n} {k = k} h d e both sum =
    let steps : m ≡ suc (suc (n + k)) = omega (arith, sum) in rw (both, steps) (turns (Split y z) h (splits d e))
