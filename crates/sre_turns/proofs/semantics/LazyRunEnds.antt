-- The outcomes of a lazy repeat without a greatest count: where more than its least count passes, those of its own
-- first end, and then those of the repeat from the next character on. And its step where it has one end, or none.
use Rattle.sre_turns.proofs.Terms.{◌≡◌, ℕ, zero, suc, ◌+◌, ◌-◌, ◌<◌, ◌≤◌, Bool, true, false, List, ◌++◌, refl, sym, ap}
use Rattle.sre_turns.proofs.Terms.{subst, arith, Test, Way, unlimited, run_length, HasTest, passes-below, run_has}
use Rattle.sre_turns.proofs.Terms.{word_of, Frame, Instruction, spot_at, Stop, Run, Subject, Moves, Runs, turns, stops}
use Rattle.sre_turns.proofs.Terms.{RunOperands, AllPass, Longer, Spot, Split, Marks, passes, Word, Opcode, skip}
use Rattle.sre_chars.specs.declared.constants.SreOpcode.TheVariants as opcode
use Rattle.sre_turns.proofs.semantics.StepsInRuns.{lazy_none, lazy_splits, longer_none, longer_splits}
use Rattle.sre_turns.proofs.semantics.AfterSteps.{stopped, parted, split}

-- the least count is there where so many characters pass
pub least_passed : (s : Subject) (t : Test) (low p : ℕ) → AllPass s t p (p + low) → run_length s t low p ≡ low
least_passed s t low p all_pass =
    run_has s t low p low (omega arith) (λ c l. all_pass (p + c) (omega arith) (omega (arith, l)))
    (λ l. absurd (omega (arith, l)))

-- a lazy run without a greatest count
module _ (r : Run) (i low v : ℕ) (fs : List Frame) (m : Marks) (w : Opcode r.words i opcode.MIN_REPEAT_ONE)
    (there : HasTest r.words (i + 4)) (wv : Word r.words (i + 1) v) (wl : Word r.words (i + 2) low)
    (wh : Word r.words (i + 3) unlimited) where
  -- the run from a position on
  abbrev starts_at : ℕ → Spot
  starts_at p = spot_at (Instruction i) fs p m

  -- its tail, behind it
  abbrev ends_at : ℕ → Spot
  ends_at q = spot_at (Instruction (i + 1 + v)) fs q m

  -- its longer counts, behind so many characters
  abbrev longer_at : ℕ → ℕ → Spot
  longer_at n q = spot_at (Longer i n) fs q m

  -- its operands
  operands : RunOperands r.words i low unlimited there.end there.test
  operands = record { lowest = wl; highest = wh; stands = there.stands }

  leads : i + 1 + v ≡ skip r.words (i + 1)
  leads = ap (λ k. i + 1 + k) (sym (word_of r.words (i + 1) v wv))

  -- where fewer characters pass than the least count it comes to nothing
  pub lazy_stops : (p : ℕ) → run_length r.subject there.test low p < low → Moves r.words r.subject (starts_at p) Stop
  lazy_stops p l = lazy_none operands w l

  -- where so many pass, its first end is tried before the longer ones
  pub lazy_moves : (p : ℕ) → AllPass r.subject there.test p (p + low)
      → Moves r.words r.subject (starts_at p) (Split (ends_at (p + low)) (longer_at low (p + low)))
  lazy_moves p all_pass = lazy_splits operands w leads (least_passed r.subject there.test low p all_pass) refl

  -- where the next character does not pass the longer counts come to nothing
  pub longer_stops : (n p : ℕ) → n ≤ p → passes r.subject there.test p ≡ false
      → Moves r.words r.subject (longer_at n p) Stop
  longer_stops n p past e = longer_none operands past e

  -- where it passes, the end behind it is tried before the longer ones
  longer_moves : (n p : ℕ) → n ≤ p → passes r.subject there.test p ≡ true
      → Moves r.words r.subject (longer_at n p) (Split (ends_at (p + 1)) (longer_at (n + 1) (p + 1)))
  longer_moves n p past e = longer_splits operands leads past e refl

  -- they lie behind as many characters as they say
  longer_within : {n p k : ℕ} {os : List Way} → Runs r.words r.subject (longer_at n p) os k → n ≤ p
  longer_within (turns mv h d) = h.past

  -- where they come to nothing, so do those behind another number of characters
  longer_stopped : (a b p : ℕ) (os : List Way) (n : ℕ) → b ≤ p → passes r.subject there.test p ≡ false
      → Runs r.words r.subject (longer_at a p) os n → Runs r.words r.subject (longer_at b p) os n
  longer_stopped a b p os n past e x =
      let none = stopped (longer_stops a p (longer_within x) e) x in
      rw (none.0, none.1) (turns Stop (longer_stops b p past e) stops)

  -- the longer counts do not tell how many characters came before them
  longer_same : (left a b p : ℕ) (os : List Way) (n : ℕ) → r.subject.end ≤ p + left → b ≤ p
      → Runs r.words r.subject (longer_at a p) os n → Runs r.words r.subject (longer_at b p) os n
  longer_same zero a b p os n near past x = go (passes r.subject there.test p) refl
    where
      go : (y : Bool) → passes r.subject there.test p ≡ y → Runs r.words r.subject (longer_at b p) os n
      go true y = absurd (omega (arith, near, passes-below r.subject there.test p y))
      go false y = longer_stopped a b p os n past y x
  longer_same (suc left) a b p os n near past x =
      go (passes r.subject there.test p) refl
      (λ us k y. longer_same left (a + 1) (b + 1) (p + 1) us k (omega (arith, near)) (omega (arith, past)) y)
    where
      go : (y : Bool) → passes r.subject there.test p ≡ y
          → ((us : List Way) (k : ℕ) → Runs r.words r.subject (longer_at (a + 1) (p + 1)) us k
          → Runs r.words r.subject (longer_at (b + 1) (p + 1)) us k) → Runs r.words r.subject (longer_at b p) os n
      go true y later =
          let c = parted (longer_moves a p (longer_within x) y) x in
          split (longer_moves b p past y) c.runs (later c.next c.further c.others) c.both c.sum
      go false y later = longer_stopped a b p os n past y x

  -- where one more character passes, they are what comes of a run from later in the stretch
  pub longer_run : (n p q : ℕ) (os : List Way) (k : ℕ) → q + low ≡ p + 1
      → AllPass r.subject there.test q (p + 1) → passes r.subject there.test p ≡ true
      → Runs r.words r.subject (longer_at n p) os k → Runs r.words r.subject (starts_at q) os k
  longer_run n p q os k e all_pass taken x =
      let c = parted (longer_moves n p (longer_within x) taken) x in
      split (lazy_moves q (rw e all_pass))
      (subst (λ z. Runs r.words r.subject (ends_at z) c.now c.turns) (sym e) c.runs)
      (subst (λ z. Runs r.words r.subject (longer_at low z) c.next c.further) (sym e)
      (longer_same (r.subject.end - (p + 1)) (n + 1) low (p + 1) c.next c.further (omega arith) (omega (arith, e))
      c.others)) c.both c.sum

  -- what comes of the run: what comes of its own first end, and then of the one that begins one character later
  pub record LazyNext (p : ℕ) (os : List Way) (n : ℕ) : Type 0 where
    pub own : List Way
    pub again : List Way
    pub both : os ≡ own ++ again
    pub own_turns : ℕ
    pub again_turns : ℕ
    pub own_runs : Runs r.words r.subject (ends_at (p + low)) own own_turns
    pub again_runs : Runs r.words r.subject (starts_at (p + 1)) again again_turns
    pub sum : own_turns + again_turns + 2 ≡ n

  -- it is so where more than the least count passes
  pub lazy_next : (p : ℕ) (os : List Way) (n : ℕ) → AllPass r.subject there.test p (p + low + 1)
      → Runs r.words r.subject (starts_at p) os n → LazyNext p os n
  lazy_next p os n all_pass x =
      let c = parted (lazy_moves p (λ c from to. all_pass c from (omega (arith, to)))) x in
      record {
        own = c.now;
        again = c.next;
        both = c.both;
        own_turns = c.turns;
        again_turns = c.further;
        own_runs = c.runs;
        again_runs =
            longer_run low (p + low) (p + 1) c.next c.further (omega arith)
            (λ d from to. all_pass d (omega (arith, from)) to) (all_pass (p + low) (omega arith) (omega arith))
            c.others;
        sum = omega (arith, c.sum);
      }
