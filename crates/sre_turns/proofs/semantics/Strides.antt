-- Batched loop iterations: bodies of one character each, gone over in one step.
use Rattle.sre_turns.proofs.Terms.{◌≡◌, ℕ, ◌+◌, ◌<◌, ◌≤◌, ◌⊎◌, inl, inr, Bool, true, false, nat_eq, nat_lt, ◌++◌, List}
use Rattle.sre_turns.proofs.Terms.{[], ◌∷◌, Some, refl, sym, ap, ◌∙◌, subst, arith, nat_tests, append-nil, SreOpcode}
use Rattle.sre_turns.proofs.Terms.{passes, char_at, Greedy, Test, Plain, holds, begins_test, HasTest, TestStands, Way}
use Rattle.sre_turns.proofs.Terms.{unlimited, Limit, Fares, Going, price, toll, Frame, Instruction, spot_at, Go}
use Rattle.sre_turns.proofs.Terms.{BoardValue, Run, StringCursor, Moves, Runs, Goes, HasRun, Exhausted, Refuses}
use Rattle.sre_turns.proofs.Terms.{Continues, Demands, with_loop, spot, next_frame, Subject, repeats, Point}
use Rattle.sre_turns.proofs.Terms.{Alternatives, Spot, Split, Marks, Word, Opcode, Yields, YieldsTo, MayRepeat}
use Rattle.sre_turns.proofs.Terms.{EndsBody, Strides, TellsTest, TellsAlternatives, TellsBodies}
use Rattle.sre_model.specs.Tree.{Literal}
use Rattle.sre_chars.specs.declared.constants.SreOpcode.TheVariants as opcode
use Rattle.sre_turns.specs.Machine.{IsAt}
use Rattle.sre_turns.proofs.memoization.Bodies.{confined_leads}
use Rattle.sre_turns.proofs.semantics.Moving.{Barren, continues_then, continues_exhausted, standing}
use Rattle.sre_turns.proofs.bound.HereMoves.{here_moves}
use Rattle.sre_turns.proofs.semantics.StepsAtItems.{test_misses, test_continues, jump_continues, branch_moves}
use Rattle.sre_turns.proofs.semantics.StepsAtItems.{alternatives_move, alternatives_pass, alternatives_exhausted}
use Rattle.sre_turns.proofs.semantics.StepsInLoops.{InLoop, body_spot, end_spot, until_splits, until_runs}
use Rattle.sre_turns.proofs.semantics.AfterSteps.{run_on, parted}

-- of a configuration that splits, where nothing comes of the second
run_first : {ws : List ℕ} {s : Subject} {x : Spot} {os : List Way} {n : ℕ} (y z : Spot) → Moves ws s x (Split y z)
    → ((os : List Way) (n : ℕ) → Runs ws s z os n → os ≡ []) → Runs ws s x os n
    → (k : ℕ) × (k ≤ n) × Runs ws s y os k
run_first {ws} {s} y z h none d =
    let c = parted h d in
    let same = c.both ∙ ap (λ us. c.now ++ us) (none c.next c.further c.others) ∙ append-nil c.now in
    (c.turns, omega (arith, c.sum), subst (λ us. Runs ws s y us c.turns) (sym same) c.runs)

module _ (r : Run) (x y : Spot) where
  yields_goes : Moves r.words r.subject x (Go y) → Yields r x y
  yields_goes h = record {
    runs = λ os n d. run_on y h d;
    here = λ pl start cs at. here_moves r pl start cs x (Go y) at h;
    confines = λ l. confined_leads r.words r.subject x (Go y) h l;
  }

  yields_first : (z : Spot) → Moves r.words r.subject x (Split y z) → Barren r z → Yields r x y
  yields_first z h none = record {
    runs = λ os n d. run_first y z h none d;
    here = λ pl start cs at. (here_moves r pl start cs x (Split y z) at h).0;
    confines = λ l. (confined_leads r.words r.subject x (Split y z) h l).0;
  }

  yields_then : (z : Spot) → Yields r x y → Yields r y z → Yields r x z
  yields_then z a b = record {
    runs = λ os n d.
        let k = a.runs os n d in
        let l = b.runs os k.0 k.2 in (l.0, omega (arith, k.1, l.1), l.2);
    here = λ pl start cs at. b.here pl start cs (a.here pl start cs at);
    confines = λ l. b.confines (a.confines l);
  }

-- the innermost loop's counts, where a further body may be tried
pub in_loop : (r : Run) (u : ℕ) (c : StringCursor) (f : Frame) (b : BoardValue) → Opcode r.words u opcode.MAX_UNTIL
    → (may : MayRepeat r.words f c.position) → InLoop r Greedy u may.low may.high (with_loop f b) f
in_loop r u c f b w may = record { code = w; inside = refl; lowest = may.lowest; highest = may.highest }

-- where a body ends and a further one may be tried, both it and the loop's end can be reached
pub body_reached : (r : Run) (u : ℕ) (c : StringCursor) (f : Frame) → Opcode r.words u opcode.MAX_UNTIL
    → MayRepeat r.words f c.position → EndsBody r u f c
    → HasRun r (Instruction (f.repeat + 4)) c × HasRun r (Instruction (u + 1)) c
body_reached r u c f w may ends =
    until_runs r Greedy u may.low may.high c (with_loop f ends.board) f (in_loop r u c f ends.board w may) may.enough
    may.more ends.at

-- behind a body that moves on one more may be tried, if their count is not limited
pub repeats_on : (ws : List ℕ) (f : Frame) (p q : ℕ) → Word ws (f.repeat + 3) unlimited → MayRepeat ws f p → p < q
    → MayRepeat ws (next_frame f (Some p)) q
repeats_on ws f p q w may moves = record {
  low = may.low;
  high = unlimited;
  lowest = may.lowest;
  highest = w;
  small = may.small;
  enough = omega (arith, may.small, may.enough);
  more = let other : nat_eq p q ≡ false = grind (arith, nat_tests) in rw other refl;
}

-- what continues at a point yields it
continues_yields : (r : Run) (pt pt' : Point) (c c' : StringCursor) → Continues r pt c pt' c' → (fs : List Frame)
    (m : Marks) → Yields r (spot_at pt fs c.position m) (spot_at pt' fs c'.position m)
continues_yields r pt pt' c c' on fs m = record {
  runs = λ os n d. on.runs fs m os n d;
  here = λ pl start cs at. (on.fares pl start cs fs m at).0;
  confines = λ l. on.confines fs l;
}

-- alternatives come to the one of which something comes
pub only_yields : (r : Run) (start q v : ℕ) (pt : Point) (c c' : StringCursor)
    → Continues r (Alternatives start) c (Alternatives q) c → Word r.words q v → 0 < v
    → Exhausted r (Alternatives (q + v)) c.position → Continues r (Instruction (q + 1)) c pt c'
    → YieldsTo r (Alternatives start) c pt c'
only_yields r start q v pt c c' to w more none on = record {
  stands = on.stands;
  yields = λ fs m.
      let x : Spot = spot_at (Alternatives start) fs c.position m in
      let y : Spot = spot_at (Alternatives q) fs c.position m in
      let z : Spot = spot_at (Instruction (q + 1)) fs c.position m in
      let end : Spot = spot_at pt fs c'.position m in
      yields_then r x y end (continues_yields r (Alternatives start) (Alternatives q) c c to fs m)
      (yields_then r y z end
      (yields_first r y z (spot_at (Alternatives (q + v)) fs c.position m)
      (alternatives_move r.words r.subject q v y refl w more) (λ os n d. none fs m os n d))
      (continues_yields r (Instruction (q + 1)) pt c c' on fs m));
}

-- where nothing comes of a loop's end, what comes there comes of its further body
body_yields : (r : Run) (u : ℕ) (c : StringCursor) (b : BoardValue) (f : Frame) → Opcode r.words u opcode.MAX_UNTIL
    → MayRepeat r.words f c.position → Refuses r (u + 1) c.position
    → Yields r (spot (Instruction u) c (with_loop f b)) (body_spot u c (with_loop f b) f)
body_yields r u c b f w may none =
    yields_first r (spot (Instruction u) c (with_loop f b)) (body_spot u c (with_loop f b) f)
    (end_spot u c (with_loop f b))
    (until_splits r Greedy u may.low may.high c (with_loop f b) f (in_loop r u c f b w may) may.enough
    may.more)
    (λ os n d. none _ _ os n d)

-- a body that is one alternative alone, and comes to the loop's end
strides_body : (r : Run) (u : ℕ) (c c' : StringCursor) (f : Frame) → Opcode r.words u opcode.MAX_UNTIL
    → Opcode r.words (f.repeat + 4) opcode.BRANCH → MayRepeat r.words f c.position → Refuses r (u + 1) c.position
    → YieldsTo r (Alternatives (f.repeat + 4 + 1)) c (Instruction u) c'
    → Strides r u f c (next_frame f (Some c.position)) c'
strides_body r u c c' f w branch may none on = record {
  stands = on.stands;
  same = refl;
  yields = λ fs m.
      let b : BoardValue = record { frames = fs; marks = m; choices = [] } in
      let x : Spot = spot (Instruction u) c (with_loop f b) in
      let y : Spot = body_spot u c (with_loop f b) f in
      let inner : List Frame = next_frame f (Some c.position) ∷ fs in
      let z : Spot = spot_at (Alternatives (f.repeat + 4 + 1)) inner c.position m in
      let end : Spot = spot_at (Instruction u) inner c'.position m in
      yields_then r x y end (body_yields r u c b f w may none)
      (yields_then r y z end (yields_goes r y z (branch_moves r.words r.subject (f.repeat + 4) y refl branch))
      (on.yields inner m));
}

-- where a character comes that does not begin what is behind the loop
pub strides_before : (r : Run) (u q wanted ch : ℕ) (c c' : StringCursor) (f : Frame) → Opcode r.words u opcode.MAX_UNTIL
    → Opcode r.words (f.repeat + 4) opcode.BRANCH → q ≡ f.repeat + 4 + 1 → Demands r (u + 1) wanted
    → MayRepeat r.words f c.position → c.position < r.subject.end → ch ≡ char_at r.subject c.position
    → (ch ≡ wanted → ⊥) → YieldsTo r (Alternatives q) c (Instruction u) c'
    → Strides r u f c (next_frame f (Some c.position)) c'
strides_before r u q wanted ch c c' f w branch at demands may l read unlike on =
    let other : nat_eq wanted (char_at r.subject c.position) ≡ false =
    grind (arith, nat_tests, read, unlike) in
    let inside : nat_lt c.position r.subject.end ≡ true = grind (arith, nat_tests) in
    let lacking : passes r.subject (Literal Plain wanted) c.position ≡ false = rw (inside, other) refl in
    strides_body r u c c' f w branch may (demands c.position lacking)
    (subst (λ i. YieldsTo r (Alternatives i) c (Instruction u) c') at on)

-- one body after the other
pub strides_on : (r : Run) (u : ℕ) (c c' c'' : StringCursor) (f f' f'' : Frame) → Strides r u f c f' c'
    → Strides r u f' c' f'' c'' → Strides r u f c f'' c''
strides_on r u c c' c'' f f' f'' a b = record {
  stands = b.stands;
  same = b.same ∙ a.same;
  yields = λ fs m.
      yields_then r (spot_at (Instruction u) (f ∷ fs) c.position m) (spot_at (Instruction u) (f' ∷ fs) c'.position m)
      (spot_at (Instruction u) (f'' ∷ fs) c''.position m) (a.yields fs m) (b.yields fs m);
}

pub strides_none : (r : Run) (u : ℕ) (c : StringCursor) (f : Frame) → r.stands c c.position → Strides r u f c f c
strides_none r u c f there = record {
  stands = there;
  same = refl;
  yields = λ fs m. record {
    runs = λ os n d. (n, omega arith, d);
    here = λ pl start cs at. at;
    confines = λ l. l;
  };
}

-- the machine stands there still, and its step is under way
module _ (r : Run) (u : ℕ) (c c' : StringCursor) (f f' : Frame) (s : Strides r u f c f' c') where
  pub strides_at : (b : BoardValue) → IsAt r (Instruction u) c (with_loop f b)
      → IsAt r (Instruction u) c' (with_loop f' b)
  strides_at b x =
      let y = (s.yields b.frames b.marks).runs x.outcomes x.turns x.runs in
      record { outcomes = x.outcomes; turns = y.0; stands = s.stands; placed = x.placed; runs = y.2 }

  pub strides_ends : EndsBody r u f c → EndsBody r u f' c'
  strides_ends x = record { board = x.board; at = strides_at x.board x.at }

  pub strides_goes : (b : BoardValue) (all : List Way) (limit : Limit)
      → Goes r all limit (Instruction u) c (with_loop f b) → Goes r all limit (Instruction u) c' (with_loop f' b)
  strides_goes b all limit g =
      let y = s.yields b.frames b.marks in
      let d = y.runs g.now g.turns g.runs in
      standing Going g.waits refl refl d.2 (omega (arith, d.1)) (omega (arith, g.within, d.1)) s.stands g.placed
      (λ pl o w.
      let old = g.fares pl o w in
      record {
        here = y.here pl limit.start b.choices old.here;
        fares =
            subst (λ q. Fares r pl limit (price r.words r.subject.end (Instruction u) c'.position
            + toll r.words r.subject.end o (Instruction u) (q ∷ repeats b.frames)) b.choices) (sym s.same) old.fares;
      })
      (λ none.
      let old = g.confined none in record { here = λ inside. y.confines (old.here inside); others = old.others })

-- a set tells the characters of a test, behind which a JUMP stands perhaps
pub tells_test : (r : Run) (i end behind : ℕ) (o : SreOpcode) (set : ℕ → Bool) → Opcode r.words i o
    → begins_test o ≡ true → HasTest r.words i
    → ((ch : ℕ) → ch < 128 → (j : ℕ) (t : Test) → TestStands r.words i j t → set ch ≡ holds r.subject.table t ch)
    → ((j : ℕ) (t : Test) → TestStands r.words i j t → end ≡ j)
    → ((behind ≡ end) ⊎ ((v : ℕ) × (Opcode r.words end opcode.JUMP × (Word r.words (end + 1) v
    × (behind ≡ end + 1 + v)))))
    → TellsTest r i set behind
tells_test r i end behind o set w f there says ends jump = record {
  misses = λ c ch after read n.
      test_misses r i ch o (set ch) c w f there read.read.inside read.read.character (says ch read.ascii) n;
  passes = λ c ch after read y.
      on c after read.read.stands
      (test_continues r i ch o (set ch) c w f there read.read.inside read.read.character (says ch read.ascii) end after
      y ends read.read.position read.read.stands);
}
  where
    on : (c after : StringCursor) → r.stands after after.position
        → Continues r (Instruction i) c (Instruction end) after
        → Continues r (Instruction i) c (Instruction behind) after
    on c after stands x = elim jump [
      | (inl same) ↦ subst (λ q. Continues r (Instruction i) c (Instruction q) after) (sym same) x
      | (inr (v, (jumps, (wv, leads)))) ↦
          subst (λ q. Continues r (Instruction i) c (Instruction q) after) (sym leads)
          (continues_then r (Instruction i) (Instruction end) c after x (Instruction (end + 1 + v)) after
          (jump_continues r end v after jumps wv stands))
    ]

-- before all alternatives
pub tells_first : (r : Run) (start u : ℕ) (none only : ℕ → Bool) → ((ch : ℕ) → only ch ≡ false)
    → TellsAlternatives r start start u none only
tells_first r start u none only no_ = record {
  passed = λ c ch after read n. record {
    stands = read.stands;
    runs = λ fs m os k d. (k, omega arith, d);
    fares = λ pl begin cs fs m h. (h, omega arith);
    confines = λ fs l. l;
  };
  alone = λ c ch after read y. absurd (cc (y, no_ ch));
}

-- and behind one more, which begins with a test
module _ (r : Run) (start q u v : ℕ) (none only : ℕ → Bool) (w : Word r.words q v) (more : 0 < v) where
  pub tells_next : (set none' only' : ℕ → Bool) (behind : ℕ) → TellsTest r (q + 1) set behind
      → TellsAlternatives r start q u none only
      → ((ch : ℕ) → none' ch ≡ true → (none ch ≡ true) × (set ch ≡ false))
      → ((ch : ℕ) → only' ch ≡ true → ((only ch ≡ true) × (set ch ≡ false))
      ⊎ ((none ch ≡ true) × ((set ch ≡ true) × (behind ≡ u))))
      → TellsAlternatives r start (q + v) u none' only'
  tells_next set none' only' behind test told fewer either = record {
    passed = λ c ch after read y.
        let old = fewer ch y in
        continues_then r (Alternatives start) (Alternatives q) c c (told.passed c ch after read old.0)
        (Alternatives (q + v)) c
        (alternatives_pass r q v c w more read.stands (test.misses c ch after read old.1));
    alone = λ c ch after read y exhausted. elim (either ch y) [
      | (inl old) ↦
          told.alone c ch after read old.0
          (continues_exhausted r (Alternatives q) (Alternatives (q + v)) c c
          (alternatives_pass r q v c w more read.stands (test.misses c ch after read old.1)) exhausted)
      | (inr new) ↦
          only_yields r start q v (Instruction u) c after (told.passed c ch after read new.0) w more exhausted
          (subst (λ i. Continues r (Instruction (q + 1)) c (Instruction i) after) new.1.1
          (test.passes c ch after read new.1.0))
    ];
  }

-- behind all of them
pub tells_last : (r : Run) (start q u v : ℕ) (none only : ℕ → Bool) → Word r.words q v → v ≡ 0
    → TellsAlternatives r start q u none only → TellsBodies r start u only
tells_last r start q u v none only w e told = record {
  each = λ c ch after read y.
      told.alone c ch after read y (alternatives_exhausted r q v c.position w e);
}
