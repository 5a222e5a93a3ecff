-- The outcomes of a greedy repeat without a greatest count: where more than its least count passes, those of the repeat
-- from the next character on, and then those of its own first end. And its step where it has one end, or none.
use Rattle.sre_turns.proofs.Terms.{◌≡◌, ℕ, zero, suc, ◌+◌, ◌-◌, ◌<◌, ◌≤◌, Bool, true, false, List, [], ◌++◌, refl, sym}
use Rattle.sre_turns.proofs.Terms.{◌∙◌, ap, subst, arith, nat_lt, nat_tests, Test, Way, unlimited, run_length}
use Rattle.sre_turns.proofs.Terms.{longest_run, HasTest, passes-below, run_passes, run_stopped, run_at_most, run_has}
use Rattle.sre_turns.proofs.Terms.{word_of, Frame, Instruction, spot_at, Stop, Run, Subject, Moves, Runs, turns, stops}
use Rattle.sre_turns.proofs.Terms.{RunOperands, AllPass, append-nil, Shorter, Spot, Split, Marks, passes, Word, Opcode}
use Rattle.sre_turns.proofs.Terms.{skip, append_assoc}
use Rattle.sre_chars.specs.declared.constants.SreOpcode.TheVariants as opcode
use Rattle.sre_turns.proofs.semantics.StepsInRuns.{greedy_stops, greedy_splits, shorter_stop, shorter_moves}
use Rattle.sre_turns.proofs.semantics.StepsInRuns.{shorter_within}
use Rattle.sre_turns.proofs.semantics.AfterSteps.{Parted, stopped, parted, split}

-- what comes apart does so behind what comes first
joined : (all us vs before last : List Way) → all ≡ us ++ vs → vs ≡ before ++ last → all ≡ (us ++ before) ++ last
joined all us vs before last both e = both ∙ ap (λ ws. us ++ ws) e ∙ sym (append_assoc us before last)

-- of the shorter counts of a run behind p: all but the last of them, and the last, which ends at q
abbrev LastApart : (r : Run) (t j p q : ℕ) → List Frame → Marks → List Way → ℕ → Type 0
LastApart r t j p q fs m os n =
    Parted r.words r.subject (spot_at (Shorter t j) fs p m) (spot_at (Instruction t) fs q m) os n

last_apart : (r : Run) (t j a p q : ℕ) (fs : List Frame) (m : Marks) (os : List Way) (n : ℕ) → a ≡ j + 1
    → q + j + 1 ≡ p → Runs r.words r.subject (spot_at (Shorter t a) fs p m) os n → LastApart r t j p q fs m os n
last_apart r t zero a p q fs m os n e back d =
    let c = parted (shorter_moves r t a 0 p q fs m (omega (arith, e)) (omega (arith, back)) (shorter_within r d)) d in
    let end = stopped (shorter_stop r t 0 q fs m refl) c.others in
    record {
      now = [];
      next = c.now;
      both = c.both ∙ ap (λ us. c.now ++ us) end.0 ∙ append-nil c.now;
      turns = 1;
      further = c.turns;
      sum = omega (arith, c.sum, end.1);
      runs = turns Stop (shorter_stop r t 0 p fs m refl) stops;
      others = c.runs;
    }
last_apart r t (suc j) a p q fs m os n e back d =
    let within : a ≤ p = shorter_within r d in
    let c = parted (shorter_moves r t a (a - 1) p (p - 1) fs m (omega (arith, e)) (omega (arith, back)) within) d in
    let rest = last_apart r t j (a - 1) (p - 1) q fs m c.next c.further (omega (arith, e)) (omega (arith, back))
    c.others in
    record {
      now = c.now ++ rest.now;
      next = rest.next;
      both = joined os c.now c.next rest.now rest.next c.both rest.both;
      turns = suc (suc (c.turns + rest.turns));
      further = rest.further;
      sum = omega (arith, c.sum, rest.sum);
      runs =
          split (shorter_moves r t (suc j) j p (p - 1) fs m refl (omega (arith, back)) (omega (arith, e, within)))
          c.runs rest.runs refl (omega arith);
      others = rest.others;
    }

-- the characters of a run pass
pub passed : (s : Subject) (t : Test) (n p q : ℕ) → q ≤ p + run_length s t n p → AllPass s t p q
passed s t n p q l c from to =
    let there : p + (c - p) ≡ c = omega (arith, from) in
    subst (λ z. passes s t z ≡ true) there (run_passes s t n p (c - p) (omega (arith, l, from, to)))

-- where one more passes, all up to it do
pub pass_last : (s : Subject) (t : Test) (p q : ℕ) → AllPass s t p q → passes s t q ≡ true → AllPass s t p (q + 1)
pass_last s t p q earlier last c from to = grind (arith, earlier)

-- a run from the next character on ends where this one does
longest_later : (r : Run) (t : Test) (p count : ℕ) → longest_run r.subject t unlimited p ≡ count → 1 ≤ count
    → longest_run r.subject t unlimited (p + 1) ≡ count - 1
longest_later r t p count e l =
    let most = run_at_most r.subject t (r.subject.end - p) p in
    run_has r.subject t (r.subject.end - (p + 1)) (p + 1) (count - 1) (omega (arith, e, most))
    (λ c before.
    passed r.subject t (r.subject.end - p) p (p + count) (omega (arith, e)) (p + 1 + c) (omega arith)
    (omega (arith, before)))
    (λ short.
    let there : p + run_length r.subject t (r.subject.end - p) p ≡ p + 1 + (count - 1) = omega (arith, e, l) in
    subst (λ q. passes r.subject t q ≡ false) there
    (run_stopped r.subject t (r.subject.end - p) p (omega (arith, e, short, l))))

-- a run is as long as its characters pass
pub longest_reaches : (r : Run) (t : Test) (p q : ℕ) → AllPass r.subject t p q
    → q ≤ p + longest_run r.subject t unlimited p
longest_reaches r t p q all_pass = go (nat_lt (p + count) q) refl
  where
    count : ℕ
    count = run_length r.subject t (r.subject.end - p) p

    go : (a : Bool) → nat_lt (p + count) q ≡ a → q ≤ p + longest_run r.subject t unlimited p
    go false e = grind (arith, nat_tests)
    go true e =
        let short : p + count < q = grind (arith, nat_tests) in
        let yes_ : passes r.subject t (p + count) ≡ true = all_pass (p + count) (omega arith) short in
        let inside : p + count < r.subject.end = passes-below r.subject t (p + count) yes_ in
        let no_ : passes r.subject t (p + count) ≡ false =
        run_stopped r.subject t (r.subject.end - p) p (omega (arith, inside)) in
        absurd (cc)

-- a greedy run without a greatest count
module _ (r : Run) (i low v : ℕ) (fs : List Frame) (m : Marks) (w : Opcode r.words i opcode.REPEAT_ONE)
    (there : HasTest r.words (i + 4)) (wv : Word r.words (i + 1) v) (wl : Word r.words (i + 2) low)
    (wh : Word r.words (i + 3) unlimited) where
  -- the run from a position on
  abbrev starts_at : ℕ → Spot
  starts_at p = spot_at (Instruction i) fs p m

  -- its tail, behind it
  abbrev ends_at : ℕ → Spot
  ends_at q = spot_at (Instruction (i + 1 + v)) fs q m

  -- its shorter counts, so many of them
  abbrev shorter_at : ℕ → ℕ → Spot
  shorter_at k q = spot_at (Shorter (i + 1 + v) k) fs q m

  -- its operands
  operands : RunOperands r.words i low unlimited there.end there.test
  operands = record { lowest = wl; highest = wh; stands = there.stands }

  leads : i + 1 + v ≡ skip r.words (i + 1)
  leads = ap (λ k. i + 1 + k) (sym (word_of r.words (i + 1) v wv))

  -- where its longest is long enough, that is tried before the shorter ones
  pub run_moves : (p count : ℕ) → longest_run r.subject there.test unlimited p ≡ count → low ≤ count
      → Moves r.words r.subject (starts_at p) (Split (ends_at (p + count)) (shorter_at (count - low) (p + count)))
  run_moves p count is l = greedy_splits operands w leads is l refl

  -- what comes of the run: what comes of the one that begins one character later, and then of its own first end
  pub record Next (p : ℕ) (os : List Way) (n : ℕ) : Type 0 where
    pub again : List Way
    pub own : List Way
    pub both : os ≡ again ++ own
    pub again_turns : ℕ
    pub own_turns : ℕ
    pub again_runs : Runs r.words r.subject (starts_at (p + 1)) again again_turns
    pub own_runs : Runs r.words r.subject (ends_at (p + low)) own own_turns
    pub sum : again_turns + own_turns + 2 ≡ n

  -- it is so where more than the least count passes
  pub run_next : (p : ℕ) (os : List Way) (n : ℕ) → AllPass r.subject there.test p (p + low + 1)
      → Runs r.words r.subject (starts_at p) os n → Next p os n
  run_next p os n all_pass x =
      let count : ℕ = longest_run r.subject there.test unlimited p in
      let reaches : p + low + 1 ≤ p + count = longest_reaches r there.test p (p + low + 1) all_pass in
      let c = parted (run_moves p count refl (omega (arith, reaches))) x in
      let rest = last_apart r (i + 1 + v) (count - 1 - low) (count - low) (p + count) (p + low) fs m c.next c.further
      (omega (arith, reaches)) (omega (arith, reaches)) c.others in
      let later : Moves r.words r.subject (starts_at (p + 1))
      (Split (ends_at (p + count)) (shorter_at (count - 1 - low) (p + count))) =
      greedy_splits operands w leads (longest_later r there.test p count refl (omega (arith, reaches)))
      (omega (arith, reaches)) (omega (arith, reaches)) in
      record {
        again = c.now ++ rest.now;
        own = rest.next;
        both = joined os c.now c.next rest.now rest.next c.both rest.both;
        again_turns = suc (suc (c.turns + rest.turns));
        own_turns = rest.further;
        again_runs = split later c.runs rest.runs refl (omega arith);
        own_runs = rest.others;
        sum = omega (arith, c.sum, rest.sum);
      }

  -- where the next character behind the least count does not pass the run is no longer
  pub run_only_moves : (p : ℕ) → AllPass r.subject there.test p (p + low)
      → passes r.subject there.test (p + low) ≡ false
      → Moves r.words r.subject (starts_at p) (Split (ends_at (p + low)) (shorter_at (low - low) (p + low)))
  run_only_moves p all_pass stopped =
      let reaches = longest_reaches r there.test p (p + low) all_pass in
      let most = run_at_most r.subject there.test (r.subject.end - p) p in
      run_moves p low
      (run_has r.subject there.test (r.subject.end - p) p low (omega (arith, reaches, most))
      (λ c l. all_pass (p + c) (omega arith) (omega (arith, l))) (λ l. stopped)) (omega arith)

  -- where its least count is not there it comes to nothing
  pub run_short_moves : (p : ℕ) → run_length r.subject there.test low p < low
      → Moves r.words r.subject (starts_at p) Stop
  run_short_moves p short = greedy_stops operands w refl (few (nat_lt count low) refl)
    where
      count : ℕ
      count = longest_run r.subject there.test unlimited p

      few : (b : Bool) → nat_lt count low ≡ b → count < low
      few true l = grind (arith, nat_tests)
      few false l =
          let enough : low ≤ count = grind (arith, nat_tests) in
          let full = run_has r.subject there.test low p low (omega arith)
          (λ c less.
          passed r.subject there.test (r.subject.end - p) p (p + count) (omega arith) (p + c) (omega arith)
          (omega (arith, less, enough)))
          (λ less. absurd (omega (arith, less))) in
          absurd (omega (arith, full, short))
