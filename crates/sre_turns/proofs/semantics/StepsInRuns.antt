-- Steps at a single-character repeat, and at its shorter counts.
use Rattle.sre_turns.proofs.Terms.{◌≡◌, ◌⊎◌, inl, inr, ℕ, zero, suc, ◌+◌, ◌-◌, ◌<◌, ◌≤◌, Bool, true, false, ◌||◌}
use Rattle.sre_turns.proofs.Terms.{nat_eq, nat_lt, List, [], length, Option, refl, sym, subst, arith, nat_tests, Test}
use Rattle.sre_turns.proofs.Terms.{RunKind, GreedyRun, passes, char_at, holds, Way, unlimited, run_length, longest_run}
use Rattle.sre_turns.proofs.Terms.{Word, Opcode, test_opcode, run_opcode, RunOperands, OperandsOfRun, Frame}
use Rattle.sre_turns.proofs.Terms.{Instruction, spot_at, Stop, BoardValue, Run, StringCursor, Moves, Runs, turns, Goes}
use Rattle.sre_turns.proofs.Terms.{GoesBoth, spot, HasRun, Skips, SkipsBoth, Exhausted, Refuses, Demands, Advances}
use Rattle.sre_turns.proofs.Terms.{Chooses, TestStands, HasTest, run_role, opcode_within, past_end, read_passes}
use Rattle.sre_turns.proofs.Terms.{goes_on, run_passes, run_at_most, run_inside, run_none, Point, Shorter, Longer}
use Rattle.sre_turns.proofs.Terms.{Split, Limit, Marks, DemandsAny, Excludes, other_taken, LazyRun, PossessiveRun, skip}
use Rattle.sre_turns.proofs.Terms.{Go, Subject, run_turn}
use Rattle.sre_model.specs.Roles.{ToRun}
use Rattle.sre_chars.specs.declared.constants.SreOpcode.TheVariants as opcode
use Rattle.sre_turns.specs.declared.Next.TheVariants as next
use Rattle.sre_turns.specs.Machine.{Move}
use Rattle.sre_turns.proofs.semantics.Moving.{in_role, turn_stops, turn_splits, both_last, run_nothing, skips_then}
use Rattle.sre_turns.proofs.semantics.Moving.{at_instruction}
use Rattle.sre_turns.proofs.semantics.AfterSteps.{both_run, run_second}
use Rattle.sre_turns.proofs.semantics.StepsAtItems.{positive}

-- Steps at a single-character repeat, and at its shorter and longer counts, where its operands are known.

-- a step at the repeat
pub at_run : {ws : List ℕ} {s : Subject} {i low high end : ℕ} {t : Test} {fs : List Frame} {p : ℕ} {m : Marks}
    {mv : Move} (kind : RunKind) → Opcode ws i (run_opcode kind) → RunOperands ws i low high end t
    → mv ≡ run_turn kind s i (skip ws (i + 1)) low high t (spot_at (Instruction i) fs p m)
    → Moves ws s (spot_at (Instruction i) fs p m) mv
at_run {low = low} {high = high} {end = end} {t = t} kind w o is =
    at_instruction (run_opcode kind) (ToRun kind) (run_role kind) w
    (record { low = low; high = high; end = end; test = t; operands = o; is = is })

module _ {ws : List ℕ} {s : Subject} {i low high end : ℕ} {t : Test} {fs : List Frame} {m : Marks} {p : ℕ}
    (o : RunOperands ws i low high end t) where
  -- a greedy one whose longest run is too short comes to nothing, else that is tried before the shorter ones
  pub greedy_stops : Opcode ws i opcode.REPEAT_ONE → {count : ℕ} → longest_run s t high p ≡ count → count < low
      → Moves ws s (spot_at (Instruction i) fs p m) Stop
  greedy_stops w {count} is l =
      let short : nat_lt count low ≡ true = grind (arith, nat_tests) in at_run GreedyRun w o (rw (is, short) refl)

  pub greedy_splits : {tail q : ℕ} → Opcode ws i opcode.REPEAT_ONE → tail ≡ skip ws (i + 1) → {count : ℕ}
      → longest_run s t high p ≡ count → low ≤ count → q ≡ p + count
      → Moves ws s (spot_at (Instruction i) fs p m)
      (Split (spot_at (Instruction tail) fs q m) (spot_at (Shorter tail (count - low)) fs q m))
  greedy_splits w leads {count} is l there =
      let enough : nat_lt count low ≡ false = grind (arith, nat_tests) in
      at_run GreedyRun w o (rw (is, enough, there, leads) refl)

  -- a lazy one whose least count is not there comes to nothing, else that is tried before the longer ones
  pub lazy_none : Opcode ws i opcode.MIN_REPEAT_ONE → run_length s t low p < low
      → Moves ws s (spot_at (Instruction i) fs p m) Stop
  lazy_none w l =
      let short : nat_lt (run_length s t low p) low ≡ true = grind (arith, nat_tests) in
      at_run LazyRun w o (rw short refl)

  pub lazy_splits : {tail q : ℕ} → Opcode ws i opcode.MIN_REPEAT_ONE → tail ≡ skip ws (i + 1)
      → run_length s t low p ≡ low → q ≡ p + low
      → Moves ws s (spot_at (Instruction i) fs p m)
      (Split (spot_at (Instruction tail) fs q m) (spot_at (Longer i low) fs q m))
  lazy_splits w leads full there =
      let enough : nat_lt low low ≡ false = grind (arith, nat_tests) in
      at_run LazyRun w o (rw (full, enough, there, leads) refl)

  -- a possessive one with a greatest count goes behind its longest run, if that is long enough
  pub bounded_stops : Opcode ws i opcode.POSSESSIVE_REPEAT_ONE → nat_eq high unlimited ≡ false → {count : ℕ}
      → longest_run s t high p ≡ count → count < low → Moves ws s (spot_at (Instruction i) fs p m) Stop
  bounded_stops w bounded {count} is l =
      let short : nat_lt count low ≡ true = grind (arith, nat_tests) in
      at_run PossessiveRun w o (rw (is, bounded, short) refl)

  pub bounded_goes : {tail q : ℕ} → Opcode ws i opcode.POSSESSIVE_REPEAT_ONE → tail ≡ skip ws (i + 1)
      → nat_eq high unlimited ≡ false → {count : ℕ} → longest_run s t high p ≡ count → low ≤ count → q ≡ p + count
      → Moves ws s (spot_at (Instruction i) fs p m) (Go (spot_at (Instruction tail) fs q m))
  bounded_goes w leads bounded {count} is l there =
      let enough : nat_lt count low ≡ false = grind (arith, nat_tests) in
      at_run PossessiveRun w o (rw (is, bounded, enough, there, leads) refl)

  -- behind n characters the longer counts go on by one more, or come to nothing
  pub longer_none : {n : ℕ} → n ≤ p → goes_on s t high n p ≡ false → Moves ws s (spot_at (Longer i n) fs p m) Stop
  longer_none past e = record {
    low = low;
    high = high;
    end = end;
    test = t;
    operands = o;
    past = past;
    is = rw e refl;
  }

  pub longer_splits : {tail q : ℕ} → tail ≡ skip ws (i + 1) → {n : ℕ} → n ≤ p → goes_on s t high n p ≡ true → q ≡ p + 1
      → Moves ws s (spot_at (Longer i n) fs p m)
      (Split (spot_at (Instruction tail) fs q m) (spot_at (Longer i (n + 1)) fs q m))
  longer_splits leads past e there = record {
    low = low;
    high = high;
    end = end;
    test = t;
    operands = o;
    past = past;
    is = rw (e, there, leads) refl;
  }

-- a step that leads to two points at a cursor, wherever it is made
module _ (r : Run) (pt first second : Point) (c after : StringCursor) (there : r.stands after after.position)
    (moves : (fs : List Frame) (m : Marks) → Moves r.words r.subject (spot_at pt fs c.position m)
    (Split (spot_at first fs after.position m) (spot_at second fs after.position m))) where
  goes_both : (b : BoardValue) (all : List Way) (limit : Limit) → Goes r all limit pt c b
      → GoesBoth r all limit (spot first after b) (spot second after b) after b.choices
  goes_both b =
      turn_splits r pt c b (spot first after b) (spot second after b) after (moves b.frames b.marks) there refl refl

  both_skip : HasRun r pt c → SkipsBoth r pt c first second after
  both_skip x =
      let s = both_run r pt first second c after moves there x in
      record { runs = s.0; others = s.1; skips = goes_both }

-- shorter counts
pub shorter_stop : (r : Run) (t k p : ℕ) (fs : List Frame) (m : Marks) → k ≡ 0
    → Moves r.words r.subject (spot_at (Shorter t k) fs p m) Stop
shorter_stop r t k p fs m e = record { past = omega arith; is = rw e refl }

pub shorter_moves : (r : Run) (t k j p q : ℕ) (fs : List Frame) (m : Marks) → k ≡ suc j → p ≡ q + 1 → k ≤ p
    → Moves r.words r.subject (spot_at (Shorter t k) fs p m)
    (Split (spot_at (Instruction t) fs q m) (spot_at (Shorter t j) fs q m))
shorter_moves r t k j p q fs m e place l =
    let more : nat_eq k 0 ≡ false = grind (arith, nat_tests) in
    let less : k - 1 ≡ j = omega arith in
    let before : p - 1 ≡ q = omega arith in
    record { past = l; is = rw (more, less, before) refl }

pub shorter_within : (r : Run) {t k p n : ℕ} {fs : List Frame} {m : Marks} {os : List Way}
    → Runs r.words r.subject (spot_at (Shorter t k) fs p m) os n → k ≤ p
shorter_within r (turns mv h d) = h.past

pub shorter_none : (r : Run) (t k : ℕ) (c : StringCursor) (b : BoardValue) → k ≡ 0
    → Advances r (Shorter t k) c b next.Back b
shorter_none r t k c b e = turn_stops r (Shorter t k) c b (shorter_stop r t k c.position b.frames b.marks e)

pub shorter_past : (r : Run) (t k : ℕ) (c : StringCursor) → 0 < k → HasRun r (Shorter t k) c → 1 ≤ c.position
shorter_past r t k c l x = omega (arith, shorter_within r x.runs)

-- the tail one character back, and the counts that are shorter still
pub shorter_skips : (r : Run) (pt : Point) (start : StringCursor) (t k : ℕ) (c c' : StringCursor) → (k ≡ 0 → ⊥)
    → c.position ≡ c'.position + 1 → r.stands c' c'.position → HasRun r (Shorter t k) c
    → Skips r pt start (Shorter t k) c → SkipsBoth r pt start (Instruction t) (Shorter t (k - 1)) c'
shorter_skips r pt start t k c c' more place there x skips =
    let less : k ≡ suc (k - 1) = omega (arith, positive k more) in
    skips_then r pt (Shorter t k) (Instruction t) (Shorter t (k - 1)) start c c' skips
    (both_skip r (Shorter t k) (Instruction t) (Shorter t (k - 1)) c c' there
    (λ fs m. shorter_moves r t k (k - 1) c.position c'.position fs m less place (shorter_within r x.runs)) x)

pub shorter_last : (r : Run) (i t k : ℕ) (c : StringCursor) (b : BoardValue) → k ≡ 0
    → Chooses r (Instruction i) (Shorter t k) c b (next.At i c) b
shorter_last r i t k c b e =
    both_last r i (spot (Shorter t k) c b) c b (shorter_stop r t k c.position b.frames b.marks e)

-- where the tail refuses at each of the shorter counts, nothing comes of them
shorter_exhausted : (r : Run) (t k p : ℕ) → ((q : ℕ) → p ≤ q + k → q < p → Refuses r t q) → Exhausted r (Shorter t k) p
shorter_exhausted r t zero p none fs m os n d = run_nothing (shorter_stop r t 0 p fs m refl) d
shorter_exhausted r t (suc j) p none fs m os n d =
    let l : suc j ≤ p = shorter_within r d in
    let rest =
    run_second (spot_at (Instruction t) fs (p - 1) m) (spot_at (Shorter t j) fs (p - 1) m)
    (shorter_moves r t (suc j) j p (p - 1) fs m refl (omega (arith, l)) l)
    (λ os n e. none (p - 1) (omega (arith, l)) (omega (arith, l)) fs m os n e) d in
    shorter_exhausted r t j (p - 1) (λ q from to. none q (omega (arith, from, l)) (omega (arith, to))) fs m os rest.0
    rest.2

-- a test stands behind the operands of a run
pub run_there : (r : Run) (kind : RunKind) (i : ℕ) (c : StringCursor) → Opcode r.words i (run_opcode kind)
    → HasRun r (Instruction i) c → HasTest r.words (i + 4)
run_there r kind i c w x =
    let h = (in_role (run_opcode kind) (ToRun kind) (run_role kind) w x.runs).1 in
    record { end = h.end; test = h.test; stands = h.operands.stands }

-- so the operands themselves are there
pub operands_within : (ws : List ℕ) (i : ℕ) → HasTest ws (i + 4) → i + 4 < length ws
operands_within ws i t = opcode_within ws (i + 4) (test_opcode t.test) t.stands.code

-- as a turn at a run has them
pub stands_of : (ws : List ℕ) (i tail low high : ℕ) (o : OperandsOfRun ws i tail low high)
    → RunOperands ws i low high o.test.end o.test.test
stands_of ws i tail low high o = record { lowest = o.lowest; highest = o.highest; stands = o.test.stands }

-- how long the run is, whatever test stands there
abbrev pub CountsRun : Run → ℕ → ℕ → ℕ → ℕ → Type 0
CountsRun r i high p count =
    (j : ℕ) (t : Test) → TestStands r.words (i + 4) j t → count ≡ longest_run r.subject t high p

pub run_short : (r : Run) (i tail low high count : ℕ) (c : StringCursor) (b : BoardValue)
    → Opcode r.words i opcode.REPEAT_ONE → OperandsOfRun r.words i tail low high → CountsRun r i high c.position count
    → count < low → Advances r (Instruction i) c b next.Back b
run_short r i tail low high count c b w o k l =
    let longest : longest_run r.subject o.test.test high c.position ≡ count =
    sym (k o.test.end o.test.test o.test.stands) in
    turn_stops r (Instruction i) c b (greedy_stops (stands_of r.words i tail low high o) w longest l)

-- a run that may not be empty refuses where its test does not take the character that was read
pub run_misses : (r : Run) (i low ch : ℕ) (c : StringCursor) → Opcode r.words i opcode.REPEAT_ONE
    → (there : HasTest r.words (i + 4)) → Word r.words (i + 2) low → (low ≡ 0 → ⊥) → c.position < r.subject.end
    → ch ≡ char_at r.subject c.position
    → ((j : ℕ) (t : Test) → TestStands r.words (i + 4) j t → holds r.subject.table t ch ≡ false)
    → Refuses r i c.position
run_misses r i low ch c w there wl some inside read says fs m os k d =
    let h = (in_role opcode.REPEAT_ONE (ToRun GreedyRun) refl w d).1 in
    let missed : passes r.subject there.test c.position ≡ false =
    read_passes r.subject there.test c.position ch false inside read (sym (says there.end there.test there.stands)) in
    let none : longest_run r.subject there.test h.high c.position ≡ 0 = run_none r.subject there.test _ _ missed in
    run_nothing
    (greedy_stops (record { lowest = wl; highest = h.operands.highest; stands = there.stands }) w none
    (positive low some)) d

module _ (r : Run) (i tail low high count : ℕ) (c after : StringCursor) (w : Opcode r.words i opcode.REPEAT_ONE)
    (o : OperandsOfRun r.words i tail low high) (k : CountsRun r i high c.position count) (l : low ≤ count)
    (moved_on : after.position ≡ c.position + count) (there : r.stands after after.position) where
  run_moves : (fs : List Frame) (m : Marks)
      → Moves r.words r.subject (spot_at (Instruction i) fs c.position m)
      (Split (spot_at (Instruction tail) fs after.position m)
      (spot_at (Shorter tail (count - low)) fs after.position m))
  run_moves fs m =
      greedy_splits (stands_of r.words i tail low high o) w o.leads (sym (k o.test.end o.test.test o.test.stands)) l
      moved_on

  pub run_both : (b : BoardValue) (all : List Way) (limit : Limit) → Goes r all limit (Instruction i) c b
      → GoesBoth r all limit (spot (Instruction tail) after b) (spot (Shorter tail (count - low)) after b) after
      b.choices
  run_both = goes_both r (Instruction i) (Instruction tail) (Shorter tail (count - low)) c after there run_moves

  pub run_runs : HasRun r (Instruction i) c
      → HasRun r (Instruction tail) after × HasRun r (Shorter tail (count - low)) after
  run_runs = both_run r (Instruction i) (Instruction tail) (Shorter tail (count - low)) c after run_moves there

  -- where none is left, or the tail asks for a character that the test does not take
  pub run_only : (wanted : Option ℕ) → ((count - low ≡ 0) ⊎ Excludes r.words (i + 4) wanted)
      → DemandsAny r tail wanted → Exhausted r (Shorter tail (count - low)) after.position
  run_only wanted (inl none) demands =
      shorter_exhausted r tail (count - low) after.position (λ q from to. absurd (omega (arith, none, from, to)))
  run_only wanted (inr x) demands =
      let t = o.test in
      let asks : Demands r tail x.character = subst (λ o. DemandsAny r tail o) x.known demands in
      let unlike = x.each r.subject.table t.end t.test t.stands in
      shorter_exhausted r tail (count - low) after.position
      (λ q from to.
      let least : c.position + low ≤ q = omega (arith, from, moved_on, l) in
      let inside : q - c.position < longest_run r.subject t.test high c.position =
      omega (arith, k t.end t.test t.stands, least, to, moved_on) in
      let taken : passes r.subject t.test (c.position + (q - c.position)) ≡ true =
      run_passes r.subject t.test _ c.position (q - c.position) inside in
      let here : c.position + (q - c.position) ≡ q = omega (arith, least) in
      asks q (other_taken r.subject t.test x.character q (subst (λ p. passes r.subject t.test p ≡ true) here taken)
      unlike))

-- where the tail refuses from the run's first character on, nothing comes of the run
pub run_refuses : (r : Run) (i tail low high p : ℕ) → Opcode r.words i opcode.REPEAT_ONE
    → OperandsOfRun r.words i tail low high → ((q : ℕ) → p ≤ q → Refuses r tail q) → Refuses r i p
run_refuses r i tail low high p w o none fs m os n d =
    by (longest_run r.subject o.test.test high p) refl (grind arith)
  where
    by : (count : ℕ) → longest_run r.subject o.test.test high p ≡ count → (count < low) ⊎ (low ≤ count) → os ≡ []
    by count longest (inl l) = run_nothing (greedy_stops (stands_of r.words i tail low high o) w longest l) d
    by count longest (inr l) =
        let rest =
        run_second (spot_at (Instruction tail) fs (p + count) m) (spot_at (Shorter tail (count - low)) fs (p + count) m)
        (greedy_splits (stands_of r.words i tail low high o) w o.leads longest l refl)
        (λ os' n' e. none (p + count) (omega arith) fs m os' n' e) d in
        shorter_exhausted r tail (count - low) (p + count) (λ q from to. none q (omega (arith, from, l))) fs m os rest.0
        rest.2

-- MIN_REPEAT_ONE: how many of the first characters pass, whatever test stands there
abbrev pub CountsUpTo : Run → ℕ → ℕ → ℕ → ℕ → Type 0
CountsUpTo r i most p count =
    (j : ℕ) (t : Test) → TestStands r.words (i + 4) j t → count ≡ run_length r.subject t most p

module _ (r : Run) (i tail low high : ℕ) (c : StringCursor) (w : Opcode r.words i opcode.MIN_REPEAT_ONE)
    (o : OperandsOfRun r.words i tail low high) where
  lazy_stops : (b : BoardValue) → run_length r.subject o.test.test low c.position < low
      → Advances r (Instruction i) c b next.Back b
  lazy_stops b l = turn_stops r (Instruction i) c b (lazy_none (stands_of r.words i tail low high o) w l)

  -- the window is too short, or a character does not pass
  pub lazy_cut : (b : BoardValue) → r.subject.end - c.position < low → Advances r (Instruction i) c b next.Back b
  lazy_cut b l = lazy_stops b (omega (arith, run_inside r.subject o.test.test low c.position))

  pub lazy_short : (b : BoardValue) (count : ℕ) → CountsUpTo r i low c.position count → count < low
      → Advances r (Instruction i) c b next.Back b
  lazy_short b count k l = lazy_stops b (omega (arith, k o.test.end o.test.test o.test.stands))

  module _ (count : ℕ) (after : StringCursor) (k : CountsUpTo r i low c.position count) (l : low ≤ count)
      (moved_on : after.position ≡ c.position + count) (there : r.stands after after.position) where
    lazy_moves : (fs : List Frame) (m : Marks)
        → Moves r.words r.subject (spot_at (Instruction i) fs c.position m)
        (Split (spot_at (Instruction tail) fs after.position m) (spot_at (Longer i low) fs after.position m))
    lazy_moves fs m =
        let is_count = k o.test.end o.test.test o.test.stands in
        let all_ : run_length r.subject o.test.test low c.position ≡ low =
        omega (arith, is_count, run_at_most r.subject o.test.test low c.position) in
        lazy_splits (stands_of r.words i tail low high o) w o.leads all_ (omega (arith, all_, is_count, moved_on))

    pub lazy_both : (b : BoardValue) (all : List Way) (limit : Limit) → Goes r all limit (Instruction i) c b
        → GoesBoth r all limit (spot (Instruction tail) after b) (spot (Longer i low) after b) after b.choices
    lazy_both = goes_both r (Instruction i) (Instruction tail) (Longer i low) c after there lazy_moves

    pub lazy_runs : HasRun r (Instruction i) c → HasRun r (Instruction tail) after × HasRun r (Longer i low) after
    lazy_runs = both_run r (Instruction i) (Instruction tail) (Longer i low) c after lazy_moves there

-- longer counts
longer_within : (r : Run) {i n p k : ℕ} {fs : List Frame} {m : Marks} {os : List Way}
    → Runs r.words r.subject (spot_at (Longer i n) fs p m) os k → HasTest r.words (i + 4) × (n ≤ p)
longer_within r (turns mv h d) = (record { end = h.end; test = h.test; stands = h.operands.stands }, h.past)

pub longer_there : (r : Run) (i n : ℕ) (c : StringCursor) → HasRun r (Longer i n) c → HasTest r.words (i + 4)
longer_there r i n c x = (longer_within r x.runs).0

pub longer_past : (r : Run) (i n : ℕ) (c : StringCursor) → HasRun r (Longer i n) c → n ≤ c.position
longer_past r i n c x = (longer_within r x.runs).1

module _ (r : Run) (i tail low high n : ℕ) (c : StringCursor) (o : OperandsOfRun r.words i tail low high)
    (past : n ≤ c.position) where
  longer_stops : (b : BoardValue) → goes_on r.subject o.test.test high n c.position ≡ false
      → Advances r (Longer i n) c b next.Back b
  longer_stops b e = turn_stops r (Longer i n) c b (longer_none (stands_of r.words i tail low high o) past e)

  -- the greatest count is reached, or the window's end, or a character does not pass
  pub longer_full : (b : BoardValue) → (nat_eq high unlimited || nat_lt n high) ≡ false
      → Advances r (Longer i n) c b next.Back b
  longer_full b e = longer_stops b (rw e refl)

  pub longer_unlike : (b : BoardValue) → passes r.subject o.test.test c.position ≡ false
      → Advances r (Longer i n) c b next.Back b
  longer_unlike b e = longer_stops b (rw e (grind (arith, nat_tests)))

  pub longer_end : (b : BoardValue) → r.subject.end ≤ c.position → Advances r (Longer i n) c b next.Back b
  longer_end b l =
      longer_unlike b (past_end r.subject o.test.test c.position l)

  module _ (after : StringCursor) (more : (nat_eq high unlimited || nat_lt n high) ≡ true)
      (taken : passes r.subject o.test.test c.position ≡ true) (moved_on : after.position ≡ c.position + 1)
      (there : r.stands after after.position) where
    longer_moves : (fs : List Frame) (m : Marks)
        → Moves r.words r.subject (spot_at (Longer i n) fs c.position m)
        (Split (spot_at (Instruction tail) fs after.position m) (spot_at (Longer i (n + 1)) fs after.position m))
    longer_moves fs m =
        longer_splits (stands_of r.words i tail low high o) o.leads past (rw (more, taken) refl) moved_on

    pub longer_skips : HasRun r (Longer i n) c
        → SkipsBoth r (Longer i n) c (Instruction tail) (Longer i (n + 1)) after
    longer_skips = both_skip r (Longer i n) (Instruction tail) (Longer i (n + 1)) c after there longer_moves

-- what was read tells whether the test passes
pub longer_passes : (r : Run) (i ch : ℕ) (takes : Bool) (c : StringCursor) (t : HasTest r.words (i + 4))
    → c.position < r.subject.end → ch ≡ char_at r.subject c.position
    → ((j : ℕ) (x : Test) → TestStands r.words (i + 4) j x → takes ≡ holds r.subject.table x ch)
    → passes r.subject t.test c.position ≡ takes
longer_passes r i ch takes c t l e k =
    read_passes r.subject t.test c.position ch takes l e (k t.end t.test t.stands)
