-- Repeats without a greatest count, while failures are memoized.
use Rattle.sre_machine.proofs.Terms.{◌≡◌, ◌⊎◌, inl, inr, ℕ, ◌+◌, ◌-◌, ◌<◌, ◌≤◌, true, false, List, ◌∷◌, Option, Some}
use Rattle.sre_machine.proofs.Terms.{None, refl, sym, subst, arith, Ghosts, StringCursor, Word, Opcode, word, Run}
use Rattle.sre_machine.proofs.Terms.{HasTest, passes, Test, Way, unlimited, word_there, BoardValue, Else, Limit, Runs}
use Rattle.sre_machine.proofs.Terms.{Tries, HasRun, Later, Refuses, spot, spot_at, Instruction, both_first}
use Rattle.sre_machine.proofs.Terms.{both_wait_there, operands_within, run_there, Request, end_of, run_of, OpcodeAt}
use Rattle.sre_machine.proofs.Terms.{AreOperands, NotTakenAt, RunOperands, run_opcode, TestStands, RunKind, run_length}
use Rattle.sre_machine.proofs.Terms.{run_inside, run_at_most, GoesBoth, RunsOn, both_second, run_next, passed}
use Rattle.sre_machine.proofs.Terms.{pass_last, lazy_next, greedy_both, greedy_only, greedy_short, lazy_both, lazy_only}
use Rattle.sre_machine.proofs.Terms.{lazy_short, possessive_on, possessive_only, possessive_short, Standing, At}
use Rattle.sre_machine.proofs.Terms.{AllTaken, HasOtherEnds, LacksLeast, EndsFirst, TakenAt}
use Rattle.sre_chars.specs.declared.constants.SreOpcode.TheVariants as opcode
use Rattle.sre_turns.specs.declared.Next.TheVariants as next

-- a run of which no greatest count stands there is one
pub endless_there : (r : Run) (kind : RunKind) (i n : ℕ) (c : StringCursor) → Opcode r.words i (run_opcode kind)
    → Opcode r.words i opcode.REPEAT_ONE
    ⊎ (Opcode r.words i opcode.MIN_REPEAT_ONE ⊎ Opcode r.words i opcode.POSSESSIVE_REPEAT_ONE)
    → HasRun r (Instruction i) c → Word r.words (i + 3) n → n ≡ unlimited → RunsOn r.words i
endless_there r kind i n c w code x greatest same = record {
  code = code;
  greatest = subst (λ v. Word r.words (i + 3) v) same greatest;
  test = run_there r kind i c w x;
}

module _ {S : Type 0} {text : Ghosts S} (r : Request S text) {place : ℕ} (on : RunsOn (run_of r).words place)
    {o : RunOperands} (read : AreOperands r place o) (c : StringCursor) where
  abbrev ws : List ℕ
  ws = (run_of r).words

  abbrev v : ℕ
  v = word ws (place + 1)

  wv : Word ws (place + 1) v
  wv = word_there ws (place + 1) (omega (arith, operands_within ws place on.test))

  there : HasTest ws (place + 4)
  there = on.test

  -- it has no end
  pub run_short : (b : BoardValue) → LacksLeast r place o.least c.position → (all : List Way) (limit : Limit)
      → Tries (run_of r) all limit (Instruction place) c b → Later (run_of r) all limit next.Back b
  run_short b lacks = elim on.code [
    | inl w ↦ greedy_short (run_of r) place o.least v w there wv read.operands.lowest on.greatest c b
        (lacks.short there.end there.test there.stands)
    | inr (inl w) ↦ lazy_short (run_of r) place o.least v w there wv read.operands.lowest on.greatest c b
        (lacks.short there.end there.test there.stands)
    | inr (inr w) ↦ possessive_short (run_of r) place o.least w there read.operands.lowest on.greatest c b
        (lacks.short there.end there.test there.stands)
  ]

  -- its first end is its only one
  pub run_only : (b : BoardValue) {end : StringCursor} {later : Option StringCursor} → later ≡ None
      → EndsFirst r place o.least c.position end later
      → (all : List Way) (limit : Limit) → Tries (run_of r) all limit (Instruction place) c b
      → Later (run_of r) all limit (next.At o.tail end) b
  run_only b {end} {later} is first all limit g =
      subst (λ t. Later (run_of r) all limit (next.At t end) b) (sym read.operands.leads) (go on.code)
    where
      e : EndsFirst r place o.least c.position end None
      e = rw is at first

      go : Opcode ws place opcode.REPEAT_ONE
          ⊎ (Opcode ws place opcode.MIN_REPEAT_ONE ⊎ Opcode ws place opcode.POSSESSIVE_REPEAT_ONE)
          → Later (run_of r) all limit (next.At (place + 1 + v) end) b
      go (inl w) =
          greedy_only (run_of r) place o.least v w there wv read.operands.lowest on.greatest c b end
          (e.taken there.end there.test there.stands) (e.others there.end there.test there.stands) e.position e.stands
          all limit g
      go (inr (inl w)) =
          lazy_only (run_of r) place o.least v w there wv read.operands.lowest on.greatest c b end
          (e.taken there.end there.test there.stands) (e.others there.end there.test there.stands) e.position e.stands
          (omega arith) all limit g
      go (inr (inr w)) =
          possessive_only (run_of r) place o.least w there read.operands.lowest on.greatest c b end
          (e.taken there.end there.test there.stands) (e.others there.end there.test there.stands) e.position e.stands
          all limit g

  module _ {end later : StringCursor} {other : Option StringCursor} (is : other ≡ Some later)
      (first : EndsFirst r place o.least c.position end other) where
    e : EndsFirst r place o.least c.position end (Some later)
    e = rw is at first

    -- something may come of its tail
    pub tail_has : HasOtherEnds r place → At r place c → HasRun (run_of r) (Instruction o.tail) end
    tail_has several x =
        subst (λ t. HasRun (run_of r) (Instruction t) end) (sym read.operands.leads) (go several)
      where
        own_at : List Way → ℕ → ℕ → Type 0
        own_at os n p = Runs ws (run_of r).subject (spot_at (Instruction (place + 1 + v)) x.frames p x.marks) os n

        go : HasOtherEnds r place → HasRun (run_of r) (Instruction (place + 1 + v)) end
        go (inl w) =
            let y = run_next (run_of r) place o.least v x.frames x.marks w there wv read.operands.lowest on.greatest
            c.position x.outcomes x.turns (e.others.2 there.end there.test there.stands) x.runs in
            record {
              frames = x.frames;
              marks = x.marks;
              outcomes = y.own;
              turns = y.own_turns;
              stands = e.stands;
              runs = subst (own_at y.own y.own_turns) (sym e.position) y.own_runs;
            }
        go (inr w) =
            let y = lazy_next (run_of r) place o.least v x.frames x.marks w there wv read.operands.lowest on.greatest
            c.position x.outcomes x.turns (e.others.2 there.end there.test there.stands) x.runs in
            record {
              frames = x.frames;
              marks = x.marks;
              outcomes = y.own;
              turns = y.own_turns;
              stands = e.stands;
              runs = subst (own_at y.own y.own_turns) (sym e.position) y.own_runs;
            }

    -- a possessive one goes on to the run that begins later
    pub possessive_goes : (b : BoardValue) → OpcodeAt r place opcode.POSSESSIVE_REPEAT_ONE
        → (all : List Way) (limit : Limit) → Tries (run_of r) all limit (Instruction place) c b
        → Later (run_of r) all limit (next.At place later) b
    possessive_goes b w =
        possessive_on (run_of r) place o.least w there read.operands.lowest on.greatest c b later
        (e.others.2 there.end there.test there.stands) e.others.0 e.others.1

    -- the spots to which it leads, as they stand at their cursors
    greedy_spots : (b : BoardValue) (d : StringCursor) → (run_of r).stands d d.position
        → OpcodeAt r place opcode.REPEAT_ONE → (all : List Way) (limit : Limit)
        → Tries (run_of r) all limit (Instruction place) c b
        → GoesBoth (run_of r) all limit (spot (Instruction place) later b)
        (spot_at (Instruction (place + 1 + v)) b.frames end.position b.marks) d b.choices
    greedy_spots b d stands w all limit g =
        rw (e.others.0, e.position) (greedy_both (run_of r) place o.least v w there wv read.operands.lowest on.greatest
        c b d (e.others.2 there.end there.test there.stands) stands all limit g)

    lazy_spots : (b : BoardValue) (d : StringCursor) → (run_of r).stands d d.position
        → OpcodeAt r place opcode.MIN_REPEAT_ONE → (all : List Way) (limit : Limit)
        → Tries (run_of r) all limit (Instruction place) c b
        → GoesBoth (run_of r) all limit (spot_at (Instruction (place + 1 + v)) b.frames end.position b.marks)
        (spot (Instruction place) later b) d b.choices
    lazy_spots b d stands w all limit g =
        rw (e.others.0, e.position) (lazy_both (run_of r) place o.least v w there wv read.operands.lowest on.greatest c
        b d (e.others.2 there.end there.test there.stands) stands all limit g)

    -- where its tail refuses it goes on to the run that has its other ends
    pub run_refused : (b : BoardValue) → HasOtherEnds r place → Refuses (run_of r) o.tail end.position
        → (all : List Way) (limit : Limit) → Tries (run_of r) all limit (Instruction place) c b
        → Later (run_of r) all limit (next.At place later) b
    run_refused b several none all limit g = go several
      where
        barren : Refuses (run_of r) (place + 1 + v) end.position
        barren = subst (λ t. Refuses (run_of r) t end.position) read.operands.leads none

        go : HasOtherEnds r place → Later (run_of r) all limit (next.At place later) b
        go (inl w) =
            both_first (run_of r) (spot_at (Instruction (place + 1 + v)) b.frames end.position b.marks) place later b
            b.choices (λ os n x. barren b.frames b.marks os n x) refl all limit
            (greedy_spots b later e.others.1 w all limit g)
        go (inr w) =
            both_second (run_of r) (spot_at (Instruction (place + 1 + v)) b.frames end.position b.marks) place later b
            b.choices (λ os n x. barren b.frames b.marks os n x) refl all limit
            (lazy_spots b later e.others.1 w all limit g)

    -- a greedy run goes on to that run, and its own first end waits
    pub greedy_saves : (b b' : BoardValue) → OpcodeAt r place opcode.REPEAT_ONE
        → b' ≡ record b { choices = Else (Instruction o.tail) b.frames end b.marks ∷ b.choices }
        → (all : List Way) (limit : Limit) → Tries (run_of r) all limit (Instruction place) c b
        → Later (run_of r) all limit (next.At place later) b'
    greedy_saves b b' w saved all limit g =
        subst (λ d. Later (run_of r) all limit (next.At place later) d) (sym saved)
        (both_wait_there (run_of r) place (spot_at (Instruction o.tail) b.frames end.position b.marks) later end b
        (record b { choices = Else (Instruction o.tail) b.frames end b.marks ∷ b.choices }) b.choices refl e.stands refl
        all limit (rw read.operands.leads (greedy_spots b later e.others.1 w all limit g)))

    -- a lazy one goes on to its tail, and that run waits
    pub lazy_saves : (b b' : BoardValue) → OpcodeAt r place opcode.MIN_REPEAT_ONE
        → b' ≡ record b { choices = Else (Instruction place) b.frames later b.marks ∷ b.choices }
        → (all : List Way) (limit : Limit) → Tries (run_of r) all limit (Instruction place) c b
        → Later (run_of r) all limit (next.At o.tail end) b'
    lazy_saves b b' w saved all limit g =
        subst (λ d. Later (run_of r) all limit (next.At o.tail end) d) (sym saved)
        (both_wait_there (run_of r) o.tail (spot (Instruction place) later b) end later b
        (record b { choices = Else (Instruction place) b.frames later b.marks ∷ b.choices }) b.choices refl e.others.1
        refl all limit (rw read.operands.leads (lazy_spots b end e.stands w all limit g)))

-- how a run's first end is found
module _ {S : Type 0} {text : Ghosts S} (r : Request S text) (place low p : ℕ) where
  -- the window ends before the least count is there
  pub lacks_cut : end_of r - p < low → LacksLeast r place low p
  lacks_cut short = record { short = λ j t stands. omega (arith, run_inside (run_of r).subject t low p, short) }

  module _ (count : ℕ)
      (counts : (j : ℕ) (t : Test) → TestStands (run_of r).words (place + 4) j t
      → count ≡ run_length (run_of r).subject t low p) where
    -- fewer characters pass
    pub lacks_run : count < low → LacksLeast r place low p
    lacks_run less = record { short = λ j t stands. omega (arith, counts j t stands, less) }

    module _ (end : StringCursor) (there : HasTest (run_of r).words (place + 4)) (enough : low ≤ count)
        (moved_on : end.position ≡ p + count) (stands : Standing r end) where
      least_taken : AllTaken r (place + 4) p (p + low)
      least_taken j t s = passed (run_of r).subject t low p (p + low) (omega (arith, counts j t s, enough))

      full : end.position ≡ p + low
      full =
          omega (
            arith,
            run_at_most (run_of r).subject there.test low p,
            counts there.end there.test there.stands,
            enough,
            moved_on,
          )

      -- so many pass, and no more
      pub ends_only : NotTakenAt r (place + 4) end.position → EndsFirst r place low p end None
      ends_only stopped = record {
        position = full;
        stands = stands;
        taken = least_taken;
        others = λ j t s. subst (λ q. passes (run_of r).subject t q ≡ false) full (stopped j t s);
      }

      -- one more does
      pub ends_more : (after : StringCursor) → TakenAt r (place + 4) end.position → after.position ≡ p + 1
          → (run_of r).stands after (p + 1) → EndsFirst r place low p end (Some after)
      ends_more after more position there_too = record {
        position = full;
        stands = stands;
        taken = least_taken;
        others = (
          position,
          subst (λ q. (run_of r).stands after q) (sym position) there_too,
          λ j t s. pass_last (run_of r).subject t p (p + low) (least_taken j t s)
              (subst (λ q. passes (run_of r).subject t q ≡ true) full (more j t s)),
        );
      }
