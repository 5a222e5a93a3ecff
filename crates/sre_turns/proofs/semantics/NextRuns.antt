-- A repeat without a greatest count, step by step: its outcomes are those of the repeat that begins one character
-- later, and of its own first end; of a possessive one, of one of the two. While failures are memoized the machine goes
-- by that, so that each end is tried once, from wherever the repeat is reached. Such a step has two ways to go on at
-- most, so the credits of one step pay for it.
use Rattle.sre_turns.proofs.Terms.{◌≡◌, ℕ, ◌+◌, ◌-◌, ◌<◌, ◌≤◌, false, List, ◌++◌, refl, sym, ap, ◌∙◌, subst, arith}
use Rattle.sre_turns.proofs.Terms.{SreOpcode, Way, unlimited, run_length, longest_run, HasTest, passes-below, Limit}
use Rattle.sre_turns.proofs.Terms.{FaresAt, FaresBoth, Splitting, Coming, Frame, Instruction, spot_at, Stop, BoardValue}
use Rattle.sre_turns.proofs.Terms.{Run, StringCursor, Subject, Moves, Tries, GoesBoth, Later, spot, RunOperands}
use Rattle.sre_turns.proofs.Terms.{price_of, end_price, split_toll, steps, RunKind, GreedyRun, LazyRun, PossessiveRun}
use Rattle.sre_turns.proofs.Terms.{Test, role, word_of, AllPass, append-nil, Shorter, Spot, Split, Choice, Counted}
use Rattle.sre_turns.proofs.Terms.{passes, Word, Opcode, skip, Marks}
use Rattle.sre_model.specs.Roles.{ToRun}
use Rattle.sre_chars.specs.declared.constants.SreOpcode.TheVariants as opcode
use Rattle.sre_turns.proofs.bound.Prices.{split_is}
use Rattle.sre_turns.specs.declared.Next.TheVariants as next
use Rattle.sre_turns.proofs.memoization.Bodies.{splits_confined, first_left}
use Rattle.sre_turns.proofs.bound.Faring.{fares_less, fares_earlier, run_code}
use Rattle.sre_turns.proofs.bound.HereMoves.{here_moves, here_reached, here_first}
pub use Rattle.sre_turns.proofs.semantics.Moving.{both_wait_there}
use Rattle.sre_turns.proofs.semantics.Moving.{run_nothing, standing, turn_stops, both_standing}
use Rattle.sre_turns.proofs.semantics.AfterSteps.{parted, stopped}
use Rattle.sre_turns.proofs.semantics.Onward.{Reaches, all_later}
use Rattle.sre_turns.proofs.semantics.StepsInRuns.{shorter_stop}
use Rattle.sre_turns.proofs.semantics.RunEnds.{longest_reaches, run_moves, run_next, run_only_moves, run_short_moves}
use Rattle.sre_turns.proofs.semantics.LazyRunEnds.{lazy_next, lazy_moves, lazy_stops, longer_stops}
use Rattle.sre_turns.proofs.semantics.StepsInPossessiveRuns.{onward_stops, over_stretch, goes_onward}

-- an instruction further on in the text is within reach
further_on : (s : Subject) (p q : ℕ) (fs : List Frame) → p ≤ q → q ≤ s.end → Reaches s p p fs q q fs
further_on s p q fs l e = record { onward = l; inside = λ _. e; begun = λ past. all_later p q fs l past }

-- the credits for a repeat that is split pay for its first end
split_end : (r : Run) (i v : ℕ) (o : SreOpcode) (kind : RunKind) → Word r.words (i + 1) v → Opcode r.words i o
    → role o ≡ ToRun kind → steps r.words (i + 1 + v) + 2 ≡ split_toll r.words (Instruction i)
split_end r i v o kind wv w is =
    ap (λ k. steps r.words (i + 1 + k) + 2) (sym (word_of r.words (i + 1) v wv)) ∙ sym (split_is r.words i o kind w is)

-- two configurations come of one that is tried, and the second can make no step but the last: the machine goes on at
-- the first
tries_first : (r : Run) (i v p : ℕ) (z : Spot) (c d : StringCursor) (b : BoardValue) (o : SreOpcode) (kind : RunKind)
    → Opcode r.words i o → role o ≡ ToRun kind → Word r.words (i + 1) v → d.position ≡ p
    → Moves r.words r.subject (spot (Instruction i) c b)
    (Split (spot_at (Instruction (i + 1 + v)) b.frames p b.marks) z)
    → Moves r.words r.subject z Stop → r.stands d d.position → (all : List Way) (limit : Limit)
    → Tries r all limit (Instruction i) c b → Later r all limit (next.At (i + 1 + v) d) b
tries_first r i v p z c d b o kind w is wv e moves none stands all limit g =
    let x : Spot = spot (Instruction i) c b in
    let y : Spot = spot (Instruction (i + 1 + v)) d b in
    let mv : Moves r.words r.subject x (Split y z) = rw e moves in
    let tail = split_end r i v o kind wv w is in
    let p = parted mv g.runs in
    let same : g.now ≡ p.now = p.both ∙ ap (λ us. p.now ++ us) (run_nothing none p.others) ∙ append-nil p.now in (
      omega (arith, p.sum, g.within),
      standing Coming g.waits refl same p.runs (omega (arith, p.sum)) (omega (arith, p.sum, g.within)) stands g.placed
          (λ pl o w.
          let code = run_code r x g.runs in
          let f = g.fares pl code.0 code.1 in
          record {
            here = (here_moves r pl limit.start b.choices x (Split y z) f.here mv).0;
            fares = fares_earlier r pl limit b.choices _ _ (omega (arith, tail)) f.fares;
          })
          (λ none.
          first_left r.words y z b.choices
          (splits_confined r.words r.subject x y z b.choices mv (g.confined none))),
    )

-- a repeat without a greatest count, of which more than its least count passes
module _ (r : Run) (i low v p : ℕ) (o : SreOpcode) (kind : RunKind) (w : Opcode r.words i o) (is : role o ≡ ToRun kind)
    (wv : Word r.words (i + 1) v) (t : Test) (all_pass : AllPass r.subject t p (p + low + 1)) (fs : List Frame)
    (m : Marks) (pl : Counted r) (limit : Limit) (cs : List Choice) where
  -- the repeat at a position
  abbrev starts : ℕ → Spot
  starts q = spot_at (Instruction i) fs q m

  -- its tail
  abbrev behind : ℕ → Spot
  behind q = spot_at (Instruction (i + 1 + v)) fs q m

  -- where its step leads to its tail, the credits pay for the repeat from the next character on, and for its own first
  -- end
  next_fare : (far : ℕ) (z : Spot) → Moves r.words r.subject (starts p) (Split (behind far) z)
      → FaresAt r pl limit (price_of r.words r.subject.end (starts p) + split_toll r.words (Instruction i))
      (starts p) cs
      → FaresBoth r pl limit (starts (p + 1)) (behind (p + low)) cs
  next_fare far z mv f =
      let inside = passes-below r.subject t (p + low) (all_pass (p + low) (omega arith) (omega arith)) in
      record {
        first =
            here_reached r pl limit.start cs (starts p) (starts (p + 1)) (λ a b u reads y. y)
            (further_on r.subject p (p + 1) fs (omega arith) (omega (arith, inside))) f.here;
        second =
            here_first r pl limit.start (starts p) z (i + 1 + v) far (p + low) fs m mv cs
            (further_on r.subject p (p + low) fs (omega arith) (omega (arith, inside))) f.here;
        fares = fares_less r pl limit cs _ _ (omega (arith, split_end r i v o kind wv w is)) f.fares;
      }

  -- in the other order
  end_fare : (far : ℕ) (z : Spot) → Moves r.words r.subject (starts p) (Split (behind far) z)
      → FaresAt r pl limit (price_of r.words r.subject.end (starts p) + split_toll r.words (Instruction i))
      (starts p) cs
      → FaresBoth r pl limit (behind (p + low)) (starts (p + 1)) cs
  end_fare far z mv f =
      let both = next_fare far z mv f in
      record {
        first = both.second;
        second = both.first;
        fares = fares_less r pl limit cs _ _ (omega arith) both.fares;
      }

-- a greedy repeat without a greatest count
module _ (r : Run) (i low v : ℕ) (w : Opcode r.words i opcode.REPEAT_ONE) (there : HasTest r.words (i + 4))
    (wv : Word r.words (i + 1) v) (wl : Word r.words (i + 2) low) (wh : Word r.words (i + 3) unlimited)
    (c : StringCursor) (b : BoardValue) where
  -- its tail at a position
  abbrev tail_at : ℕ → Spot
  tail_at q = spot_at (Instruction (i + 1 + v)) b.frames q b.marks

  -- the repeat at a position
  abbrev run_at : ℕ → Spot
  run_at q = spot_at (Instruction i) b.frames q b.marks

  -- its step where more than its least count passes
  greedy_moves : AllPass r.subject there.test c.position (c.position + low + 1)
      → Moves r.words r.subject (run_at c.position)
      (Split (tail_at (c.position + longest_run r.subject there.test unlimited c.position))
      (spot_at (Shorter (i + 1 + v) (longest_run r.subject there.test unlimited c.position - low)) b.frames
      (c.position + longest_run r.subject there.test unlimited c.position) b.marks))
  greedy_moves all_pass =
      let reaches = longest_reaches r there.test c.position (c.position + low + 1) all_pass in
      run_moves r i low v b.frames b.marks w there wv wl wh c.position
      (longest_run r.subject there.test unlimited c.position) refl (omega (arith, reaches))

  -- where more than its least count passes, these two come of it
  pub greedy_both : (d : StringCursor) → AllPass r.subject there.test c.position (c.position + low + 1)
      → r.stands d d.position → (all : List Way) (limit : Limit) → Tries r all limit (Instruction i) c b
      → GoesBoth r all limit (run_at (c.position + 1)) (tail_at (c.position + low)) d b.choices
  greedy_both d all_pass stands all limit g =
      let y = run_next r i low v b.frames b.marks w there wv wl wh c.position g.now g.turns all_pass g.runs in
      both_standing g.waits y.both y.again_runs y.own_runs (omega (arith, y.sum)) (omega (arith, y.sum, g.within))
      stands g.placed g.placed
      (λ pl.
      next_fare r i low v c.position opcode.REPEAT_ONE GreedyRun w refl wv there.test all_pass b.frames b.marks pl limit
      b.choices _ _ (greedy_moves all_pass) (g.fares pl opcode.REPEAT_ONE w))
      (λ none.
      let f = splits_confined r.words r.subject (run_at c.position) _ _ b.choices (greedy_moves all_pass)
      (g.confined none) in
      record { first = (g.confined none).here; second = f.first; others = f.others })

  -- where no more passes, its first end is its only one
  pub greedy_only : (d : StringCursor) → AllPass r.subject there.test c.position (c.position + low)
      → passes r.subject there.test (c.position + low) ≡ false → d.position ≡ c.position + low → r.stands d d.position
      → (all : List Way) (limit : Limit) → Tries r all limit (Instruction i) c b
      → Later r all limit (next.At (i + 1 + v) d) b
  greedy_only d all_pass stopped e stands all limit g =
      tries_first r i v (c.position + low) _ c d b opcode.REPEAT_ONE GreedyRun w refl wv e
      (run_only_moves r i low v b.frames b.marks w there wv wl wh c.position all_pass stopped)
      (shorter_stop r (i + 1 + v) (low - low) (c.position + low) b.frames b.marks (omega arith)) stands all limit g

  -- where less passes it has none
  pub greedy_short : run_length r.subject there.test low c.position < low
      → (all : List Way) (limit : Limit) → Tries r all limit (Instruction i) c b → Later r all limit next.Back b
  greedy_short short all limit g =
      turn_stops r (Instruction i) c b (run_short_moves r i low v b.frames b.marks w there wv wl wh c.position short)
      all limit g

-- a lazy one
module _ (r : Run) (i low v : ℕ) (w : Opcode r.words i opcode.MIN_REPEAT_ONE) (there : HasTest r.words (i + 4))
    (wv : Word r.words (i + 1) v) (wl : Word r.words (i + 2) low) (wh : Word r.words (i + 3) unlimited)
    (c : StringCursor) (b : BoardValue) where
  -- its tail at a position
  abbrev tail_of : ℕ → Spot
  tail_of q = spot_at (Instruction (i + 1 + v)) b.frames q b.marks

  -- the repeat at a position
  abbrev lazy_at : ℕ → Spot
  lazy_at q = spot_at (Instruction i) b.frames q b.marks

  -- where more than its least count passes, these two come of it
  pub lazy_both : (d : StringCursor) → AllPass r.subject there.test c.position (c.position + low + 1)
      → r.stands d d.position → (all : List Way) (limit : Limit) → Tries r all limit (Instruction i) c b
      → GoesBoth r all limit (tail_of (c.position + low)) (lazy_at (c.position + 1)) d b.choices
  lazy_both d all_pass stands all limit g =
      let y = lazy_next r i low v b.frames b.marks w there wv wl wh c.position g.now g.turns all_pass g.runs in
      let mv = lazy_moves r i low v b.frames b.marks w there wv wl wh c.position
      (λ d from to. all_pass d from (omega (arith, to))) in
      both_standing g.waits y.both y.own_runs y.again_runs (omega (arith, y.sum)) (omega (arith, y.sum, g.within))
      stands g.placed g.placed
      (λ pl.
      end_fare r i low v c.position opcode.MIN_REPEAT_ONE LazyRun w refl wv there.test all_pass b.frames b.marks pl
      limit b.choices _ _ mv (g.fares pl opcode.MIN_REPEAT_ONE w))
      (λ none.
      let f = splits_confined r.words r.subject (lazy_at c.position) _ _ b.choices mv (g.confined none) in
      record { first = f.first; second = (g.confined none).here; others = f.others })

  -- where no more passes, its first end is its only one
  pub lazy_only : (d : StringCursor) → AllPass r.subject there.test c.position (c.position + low)
      → passes r.subject there.test (c.position + low) ≡ false → d.position ≡ c.position + low → r.stands d d.position
      → low ≤ c.position + low
      → (all : List Way) (limit : Limit) → Tries r all limit (Instruction i) c b
      → Later r all limit (next.At (i + 1 + v) d) b
  lazy_only d all_pass stopped e stands past all limit g =
      tries_first r i v (c.position + low) _ c d b opcode.MIN_REPEAT_ONE LazyRun w refl wv e
      (lazy_moves r i low v b.frames b.marks w there wv wl wh c.position all_pass)
      (longer_stops r i low v b.frames b.marks w there wv wl wh low (c.position + low) past stopped) stands all limit g

  -- where less passes it has none
  pub lazy_short : run_length r.subject there.test low c.position < low
      → (all : List Way) (limit : Limit) → Tries r all limit (Instruction i) c b → Later r all limit next.Back b
  lazy_short short all limit g =
      turn_stops r (Instruction i) c b (lazy_stops r i low v b.frames b.marks w there wv wl wh c.position short) all
      limit g

-- a possessive one
module _ (r : Run) (i low : ℕ) (w : Opcode r.words i opcode.POSSESSIVE_REPEAT_ONE) (there : HasTest r.words (i + 4))
    (wl : Word r.words (i + 2) low) (wh : Word r.words (i + 3) unlimited) (c : StringCursor) (b : BoardValue) where
  -- its operands
  possessive_operands : RunOperands r.words i low unlimited there.end there.test
  possessive_operands = record { lowest = wl; highest = wh; stands = there.stands }

  ends : split_toll r.words (Instruction i) ≡ end_price r.words i
  ends = split_is r.words i opcode.POSSESSIVE_REPEAT_ONE PossessiveRun w refl

  -- where more than its least count passes, it comes to the repeat from the next character on
  pub possessive_on : (d : StringCursor) → AllPass r.subject there.test c.position (c.position + low + 1)
      → d.position ≡ c.position + 1 → r.stands d d.position → (all : List Way) (limit : Limit)
      → Tries r all limit (Instruction i) c b → Later r all limit (next.At i d) b
  possessive_on d all_pass e stands =
      goes_onward r i low there.end there.test w possessive_operands c d b stands Splitting
      (omega (arith, ends), omega (arith, ends)) all_pass e

  -- where no more passes, to its tail
  pub possessive_only : (d : StringCursor) → AllPass r.subject there.test c.position (c.position + low)
      → passes r.subject there.test (c.position + low) ≡ false → d.position ≡ c.position + low → r.stands d d.position
      → (all : List Way) (limit : Limit) → Tries r all limit (Instruction i) c b
      → Later r all limit (next.At (skip r.words (i + 1)) d) b
  possessive_only d all_pass stopped e stands =
      let same : c.position + low ≡ c.position + low + 0 = omega arith in
      over_stretch r i low there.end there.test w possessive_operands c d b stands Splitting
      (omega (arith, ends), omega (arith, ends)) 0
      (λ q from to. all_pass q from (omega (arith, to)))
      (subst (λ q. passes r.subject there.test q ≡ false) same stopped) (omega (arith, e))

  -- where less passes it comes to nothing
  pub possessive_short : run_length r.subject there.test low c.position < low
      → (all : List Way) (limit : Limit) → Tries r all limit (Instruction i) c b → Later r all limit next.Back b
  possessive_short short all limit g =
      turn_stops r (Instruction i) c b
      (onward_stops r.words r.subject i low there.end there.test b.frames b.marks w possessive_operands c.position
      short) all limit g
