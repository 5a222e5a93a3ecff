-- Steps at a possessive repeat of one test. One without a greatest count goes on step by step; the machine may go over
-- all these steps at once.
use Rattle.sre_turns.proofs.Terms.{◌≡◌, ℕ, ◌+◌, ◌-◌, ◌<◌, ◌≤◌, Bool, true, false, nat_eq, List, refl, sym, subst, arith}
use Rattle.sre_turns.proofs.Terms.{nat_tests, SreOpcode, Test, Way, unlimited, longest_run, StandsConfined, Limit}
use Rattle.sre_turns.proofs.Terms.{Stage, share, Going, HereIn, Coming, steps, Instruction, spot_at, Go, BoardValue}
use Rattle.sre_turns.proofs.Terms.{Run, StringCursor, Moves, GoesWith, Later, spot, Advances, RunOperands}
use Rattle.sre_turns.proofs.Terms.{OperandsOfRun, AllPass, passes, Opcode, skip, zero, suc, nat_lt, cond, PossessiveRun}
use Rattle.sre_turns.proofs.Terms.{run_length, run_passes, run_stopped, run_has, past_end, Frame, Stop, Subject, Runs}
use Rattle.sre_turns.proofs.Terms.{turns, goes, Spot, Marks}
use Rattle.sre_chars.specs.declared.constants.SreOpcode.TheVariants as opcode
use Rattle.sre_turns.specs.declared.Next.TheVariants as next
use Rattle.sre_turns.proofs.bound.Prices.{some_steps}
use Rattle.sre_turns.proofs.memoization.Bodies.{goes_confined}
use Rattle.sre_turns.proofs.bound.Faring.{fares_earlier}
use Rattle.sre_turns.proofs.bound.HereMoves.{here_moves}
use Rattle.sre_turns.proofs.semantics.Moving.{turn_goes, turn_stops, standing}
use Rattle.sre_turns.proofs.semantics.StepsInRuns.{bounded_goes, CountsRun, stands_of, at_run, bounded_stops}
use Rattle.sre_turns.proofs.semantics.AfterSteps.{stopped, went}
use Rattle.sre_turns.proofs.semantics.LazyRunEnds.{least_passed}
use Rattle.sre_turns.proofs.semantics.RunEnds.{passed}

-- The outcomes of a possessive repeat without a greatest count: where more than its least count passes, those of the
-- repeat from the next character on, and else those of its tail. So they are those of its tail after all characters
-- that pass.

-- behind the longest run the next character does not pass, or the window ends
pub longest_ended : (s : Subject) (t : Test) (p : ℕ) → passes s t (p + longest_run s t unlimited p) ≡ false
longest_ended s t p = go (nat_lt (longest_run s t unlimited p) (s.end - p)) refl
  where
    go : (b : Bool) → nat_lt (longest_run s t unlimited p) (s.end - p) ≡ b
        → passes s t (p + longest_run s t unlimited p) ≡ false
    go true y =
        let less : longest_run s t unlimited p < s.end - p = grind (arith, nat_tests) in
        run_stopped s t (s.end - p) p less
    go false y =
        let full : s.end - p ≤ longest_run s t unlimited p = grind (arith, nat_tests) in
        past_end s t (p + longest_run s t unlimited p) (omega (arith, full))

-- a run that is shorter than the least count lacks it
pub longest_lacks : (s : Subject) (t : Test) (low p : ℕ) → longest_run s t unlimited p < low
    → run_length s t low p < low
longest_lacks s t low p l =
    let same : run_length s t low p ≡ longest_run s t unlimited p =
    run_has s t low p (longest_run s t unlimited p) (omega (arith, l))
    (λ c less. run_passes s t (s.end - p) p c less) (λ less. longest_ended s t p) in
    omega (arith, same, l)

-- what each step that goes to another configuration keeps is so of y where it is so of x, and what comes of x comes of
-- y, in fewer steps
pub record ComesTo (ws : List ℕ) (s : Subject) (x y : Spot) : Type 1 where
  pub keeps : (P : Spot → Type 0) → ((x y : Spot) → Moves ws s x (Go y) → P x → P y) → P x → P y
  pub runs : (os : List Way) (n : ℕ) → Runs ws s x os n → (k : ℕ) × (k + 1 ≤ n) × Runs ws s y os k

-- so it is behind one such step, and behind two
pub one_turn : {ws : List ℕ} {s : Subject} {x y : Spot} → Moves ws s x (Go y) → ComesTo ws s x y
one_turn {x = x} {y = y} mv = record {
  keeps = λ P keeps. keeps x y mv;
  runs = λ os n d. let c = went mv d in (c.0, omega (arith, c.1), c.2);
}

and_on : {ws : List ℕ} {s : Subject} {x y z : Spot} → ComesTo ws s x y → ComesTo ws s y z → ComesTo ws s x z
and_on a b = record {
  keeps = λ P keeps h. b.keeps P keeps (a.keeps P keeps h);
  runs = λ os n d. let c = a.runs os n d in let e = b.runs os c.0 c.2 in (e.0, omega (arith, c.1, e.1), e.2);
}

-- a possessive run without a greatest count
module _ (ws : List ℕ) (s : Subject) (i low end : ℕ) (t : Test) (fs : List Frame) (m : Marks)
    (w : Opcode ws i opcode.POSSESSIVE_REPEAT_ONE) (o : RunOperands ws i low unlimited end t) where
  -- the run from a position on
  abbrev starts_at : ℕ → Spot
  starts_at p = spot_at (Instruction i) fs p m

  -- its tail, behind it
  abbrev ends_at : ℕ → Spot
  ends_at q = spot_at (Instruction (skip ws (i + 1))) fs q m

  -- where fewer characters pass than the least count it comes to nothing
  pub onward_stops : (p : ℕ) → run_length s t low p < low → Moves ws s (starts_at p) Stop
  onward_stops p l =
      let short : nat_lt (run_length s t low p) low ≡ true = grind (arith, nat_tests) in
      at_run PossessiveRun w o (rw short refl)

  enough : nat_lt low low ≡ false
  enough = grind (arith, nat_tests)

  -- where more pass it goes on to the run from the next character on
  pub onward_goes : (p : ℕ) → AllPass s t p (p + low + 1) → Moves ws s (starts_at p) (Go (starts_at (p + 1)))
  onward_goes p all_pass =
      let full = least_passed s t low p (λ c from to. all_pass c from (omega (arith, to))) in
      let more : passes s t (p + low) ≡ true = all_pass (p + low) (omega arith) (omega arith) in
      at_run PossessiveRun w o (rw (full, enough, more) refl)

  -- where no more pass it goes on to its tail
  pub onward_ends : (p : ℕ) → AllPass s t p (p + low) → passes s t (p + low) ≡ false
      → Moves ws s (starts_at p) (Go (ends_at (p + low)))
  onward_ends p all_pass stopped =
      let full = least_passed s t low p all_pass in
      at_run PossessiveRun w o (rw (full, enough, stopped) refl)

  -- the stretch of a run, with so many characters more than the least count
  abbrev Stretch : ℕ → ℕ → Type 0
  Stretch more p = AllPass s t p (p + low + more) × (passes s t (p + low + more) ≡ false)

  at_last : (p : ℕ) → Stretch 0 p → Moves ws s (starts_at p) (Go (ends_at (p + low + 0)))
  at_last p h =
      let same : p + low ≡ p + low + 0 = omega arith in
      subst (λ q. Moves ws s (starts_at p) (Go (ends_at q))) same
      (onward_ends p (λ c from to. h.0 c from (omega (arith, to)))
      (subst (λ q. passes s t q ≡ false) (sym same) h.1))

  at_first : (more p : ℕ) → Stretch (suc more) p → Moves ws s (starts_at p) (Go (starts_at (p + 1)))
  at_first more p h = onward_goes p (λ c from to. h.0 c from (omega (arith, to)))

  nearer : (more p : ℕ) → p + 1 + low + more ≡ p + low + suc more
  nearer more p = omega arith

  behind_first : (more p : ℕ) → Stretch (suc more) p → Stretch more (p + 1)
  behind_first more p h = (
    λ c from to. h.0 c (omega (arith, from)) (omega (arith, to)),
    subst (λ q. passes s t q ≡ false) (sym (nearer more p)) h.1,
  )

  -- it comes to its tail
  pub stretch_comes : (more p : ℕ) → Stretch more p → ComesTo ws s (starts_at p) (ends_at (p + low + more))
  stretch_comes zero p h = one_turn (at_last p h)
  stretch_comes (suc more) p h =
      subst (λ q. ComesTo ws s (starts_at p) (ends_at q)) (nearer more p)
      (and_on (one_turn (at_first more p h)) (stretch_comes more (p + 1) (behind_first more p h)))

  -- and what comes of its tail comes of it, by a turn more for each of these characters and one for the tail
  pub stretch_runs : (more p : ℕ) (os : List Way) (n : ℕ) → Stretch more p
      → Runs ws s (ends_at (p + low + more)) os n → Runs ws s (starts_at p) os (more + suc n)
  stretch_runs zero p os n h x =
      subst (λ k. Runs ws s (starts_at p) os k) (omega arith)
      (turns (Go (ends_at (p + low + 0))) (at_last p h) (goes x))
  stretch_runs (suc more) p os n h x =
      subst (λ k. Runs ws s (starts_at p) os k) (omega arith)
      (turns (Go (starts_at (p + 1))) (at_first more p h)
      (goes (stretch_runs more (p + 1) os n (behind_first more p h)
      (subst (λ q. Runs ws s (ends_at q) os n) (sym (nearer more p)) x))))

-- how far the longest run goes beyond its least count
pub longest_stretch : (s : Subject) (t : Test) (low p : ℕ) → low ≤ longest_run s t unlimited p
    → AllPass s t p (p + low + (longest_run s t unlimited p - low))
    × (passes s t (p + low + (longest_run s t unlimited p - low)) ≡ false)
longest_stretch s t low p l =
    let same : p + longest_run s t unlimited p ≡ p + low + (longest_run s t unlimited p - low) = omega (arith, l) in (
      λ c from to. passed s t (s.end - p) p (p + longest_run s t unlimited p) (omega arith) c from
          (omega (arith, to, l)),
      subst (λ q. passes s t q ≡ false) same (longest_ended s t p),
    )

-- a possessive run, with a greatest count or without
module _ (ws : List ℕ) (s : Subject) (i low high end : ℕ) (t : Test) (fs : List Frame) (m : Marks)
    (w : Opcode ws i opcode.POSSESSIVE_REPEAT_ONE) (o : RunOperands ws i low high end t) (p : ℕ) where
  -- that is too short comes to nothing
  pub longest_none : longest_run s t high p < low → Moves ws s (spot_at (Instruction i) fs p m) Stop
  longest_none l = go (nat_eq high unlimited) refl
    where
      go : (y : Bool) → nat_eq high unlimited ≡ y → Moves ws s (spot_at (Instruction i) fs p m) Stop
      go true y =
          let same : high ≡ unlimited = grind (arith, nat_tests) in
          onward_stops ws s i low end t fs m w (subst (λ n. RunOperands ws i low n end t) same o) p
          (longest_lacks s t low p (subst (λ n. longest_run s t n p < low) same l))
      go false y = bounded_stops o w y refl l

  -- else what comes of its tail behind it comes of it
  abbrev Behind : ℕ → List Way → ℕ → Type 0
  Behind high os n = Runs ws s (spot_at (Instruction (skip ws (i + 1))) fs (p + longest_run s t high p) m) os n

  pub longest_runs : (os : List Way) (n : ℕ) → low ≤ longest_run s t high p → Behind high os n
      → Runs ws s (spot_at (Instruction i) fs p m) os
      (cond (nat_eq high unlimited) (longest_run s t high p - low) 0 + suc n)
  longest_runs os n l d = go (nat_eq high unlimited) refl
    where
      go : (y : Bool) → nat_eq high unlimited ≡ y
          → Runs ws s (spot_at (Instruction i) fs p m) os (cond y (longest_run s t high p - low) 0 + suc n)
      go true y =
          let same : high ≡ unlimited = grind (arith, nat_tests) in
          let k : ℕ = longest_run s t unlimited p in
          let long : low ≤ k = subst (λ h. low ≤ longest_run s t h p) same l in
          let there : p + k ≡ p + low + (k - low) = omega (arith, long) in
          rw same
          (stretch_runs ws s i low end t fs m w (subst (λ h. RunOperands ws i low h end t) same o) (k - low) p os n
          (longest_stretch s t low p long)
          (subst (λ q. Runs ws s (spot_at (Instruction (skip ws (i + 1))) fs q m) os n) there
          (subst (λ h. Behind h os n) same d)))
      go false y =
          subst (λ k. Runs ws s (spot_at (Instruction i) fs p m) os k) (omega arith)
          (turns _ (bounded_goes o w refl y refl l refl) (goes d))

-- where all steps go on, the machine may go there at once, if it has enough for an instruction there
pub comes_at_once : (stage : Stage) (r : Run) (i j : ℕ) (c d : StringCursor) (b : BoardValue) (o : SreOpcode)
    → Opcode r.words i o → steps r.words j + 1 ≤ share stage r.words r.subject.end o (spot (Instruction i) c b)
    → ComesTo r.words r.subject (spot (Instruction i) c b) (spot (Instruction j) d b) → r.stands d d.position
    → (all : List Way) (limit : Limit) → GoesWith stage r all limit (Instruction i) c b
    → Later r all limit (next.At j d) b
comes_at_once stage r i j c d b o w enough on stands all limit g =
    let f = on.runs g.now g.turns g.runs in (
      omega (arith, f.1, g.within),
      standing Coming g.waits refl refl f.2 (omega (arith, f.1)) (omega (arith, f.1, g.within)) stands g.placed
          (λ pl o' w'.
          let at = g.fares pl o w in record {
            here =
                on.keeps (λ x. HereIn r pl limit.start b.choices x)
                (λ x y mv h. here_moves r pl limit.start b.choices x (Go y) h mv) at.here;
            fares = fares_earlier r pl limit b.choices _ _ enough at.fares;
          })
          (λ none.
          on.keeps (λ x. StandsConfined r.words x b.choices)
          (λ x y mv h. goes_confined r.words r.subject x y b.choices mv h) (g.confined none)),
    )

-- a possessive repeat without a greatest count
module _ (r : Run) (i low end : ℕ) (t : Test) (w : Opcode r.words i opcode.POSSESSIVE_REPEAT_ONE)
    (o : RunOperands r.words i low unlimited end t) (c d : StringCursor) (b : BoardValue)
    (stands : r.stands d d.position) where
  -- what it has pays for the way to itself, and to its tail
  abbrev has : Stage → ℕ
  has stage = share stage r.words r.subject.end opcode.POSSESSIVE_REPEAT_ONE (spot (Instruction i) c b)

  abbrev pays : (stage : Stage) → Type 0
  pays stage = (steps r.words i + 1 ≤ has stage) × (steps r.words (skip r.words (i + 1)) + 1 ≤ has stage)

  -- over so many characters more than its least count, behind which no more pass, it comes to its tail
  pub over_stretch : (stage : Stage) → pays stage → (more : ℕ)
      → AllPass r.subject t c.position (c.position + low + more) → passes r.subject t (c.position + low + more) ≡ false
      → d.position ≡ c.position + low + more → (all : List Way) (limit : Limit)
      → GoesWith stage r all limit (Instruction i) c b → Later r all limit (next.At (skip r.words (i + 1)) d) b
  over_stretch stage enough more all_pass stopped there =
      let tail : ℕ = skip r.words (i + 1) in
      comes_at_once stage r i tail c d b opcode.POSSESSIVE_REPEAT_ONE w enough.1
      (subst (λ q. ComesTo r.words r.subject (spot (Instruction i) c b)
      (spot_at (Instruction tail) b.frames q b.marks)) (sym there)
      (stretch_comes r.words r.subject i low end t b.frames b.marks w o more c.position (all_pass, stopped))) stands

  -- where more than its least count passes, it goes on to the run from the next character on
  pub goes_onward : (stage : Stage) → pays stage → AllPass r.subject t c.position (c.position + low + 1)
      → d.position ≡ c.position + 1 → (all : List Way) (limit : Limit)
      → GoesWith stage r all limit (Instruction i) c b → Later r all limit (next.At i d) b
  goes_onward stage enough all_pass there =
      let mv : Moves r.words r.subject (spot (Instruction i) c b) (Go (spot (Instruction i) d b)) =
      rw there (onward_goes r.words r.subject i low end t b.frames b.marks w o c.position all_pass) in
      comes_at_once stage r i i c d b opcode.POSSESSIVE_REPEAT_ONE w enough.0 (one_turn mv) stands

-- POSSESSIVE_REPEAT_ONE, gone over at once
module _ (r : Run) (i tail low high count : ℕ) (c : StringCursor) (b : BoardValue)
    (w : Opcode r.words i opcode.POSSESSIVE_REPEAT_ONE) (o : OperandsOfRun r.words i tail low high)
    (k : CountsRun r i high c.position count) where
  longest_is : longest_run r.subject o.test.test high c.position ≡ count
  longest_is = sym (k o.test.end o.test.test o.test.stands)

  -- without a greatest count
  abbrev Endless : Type 0
  Endless =
      RunOperands r.words i low unlimited o.test.end o.test.test
      × (longest_run r.subject o.test.test unlimited c.position ≡ count)

  endless : nat_eq high unlimited ≡ true → Endless
  endless y =
      let same : high ≡ unlimited = grind (arith, nat_tests) in (
        subst (λ n. RunOperands r.words i low n o.test.end o.test.test) same (stands_of r.words i tail low high o),
        subst (λ n. longest_run r.subject o.test.test n c.position ≡ count) same longest_is,
      )

  pub longest_short : count < low → Advances r (Instruction i) c b next.Back b
  longest_short l =
      turn_stops r (Instruction i) c b
      (longest_none r.words r.subject i low high o.test.end o.test.test b.frames b.marks w
      (stands_of r.words i tail low high o) c.position (omega (arith, longest_is, l)))

  pub longest_step : (after : StringCursor) → low ≤ count → after.position ≡ c.position + count
      → r.stands after after.position → Advances r (Instruction i) c b (next.At tail after) b
  longest_step after l moved_on there all limit g = go (nat_eq high unlimited) refl
    where
      go : (y : Bool) → nat_eq high unlimited ≡ y → Later r all limit (next.At tail after) b
      go true y =
          let x = endless y in
          let t : Test = o.test.test in
          let more : ℕ = longest_run r.subject t unlimited c.position - low in
          let all_of_it = longest_stretch r.subject t low c.position (omega (arith, x.1, l)) in
          rw o.leads
          (over_stretch r i low o.test.end t w x.0 c after b there Going
          (omega (arith, some_steps r.words (skip r.words (i + 1))), omega (arith, some_steps r.words i)) more
          all_of_it.0 all_of_it.1
          (omega (arith, moved_on, x.1, l)) all limit g)
      go false y =
          turn_goes r (Instruction i) c b (Instruction tail) after b
          (bounded_goes (stands_of r.words i tail low high o) w o.leads y longest_is l moved_on) there g.placed refl all
          limit g
