-- Steps at a loop: its REPEAT, and the MAX_UNTIL or MIN_UNTIL that ends a body.
use Rattle.sre_turns.proofs.Terms.{◌≡◌, ℕ, ◌+◌, ◌<◌, ◌≤◌, true, false, nat_lt, List, ◌∷◌, length, drop, Some, refl, ap}
use Rattle.sre_turns.proofs.Terms.{arith, nat_tests, Order, Greedy, Lazy, Way, may_repeat, Word, Opcode, until_opcode}
use Rattle.sre_turns.proofs.Terms.{skip, first_frame, next_frame, at_body, behind, in_order, until_move, Limit, earlier}
use Rattle.sre_turns.proofs.Terms.{share, Going, Frame, Instruction, BoardValue, Run, StringCursor, Moves, Goes, Later}
use Rattle.sre_turns.proofs.Terms.{spot, HasRun, Refuses, with_loop, Advances, Next, role, steps, toll, toll_by}
use Rattle.sre_turns.proofs.Terms.{loop_toll, until_role, same_opcode, word_of, word_within, Spot, Move, Else, repeats}
use Rattle.sre_model.specs.Roles.{ToRepeat, ToLoop}
use Rattle.sre_chars.specs.declared.constants.SreOpcode.TheVariants as opcode
use Rattle.sre_turns.specs.Machine.{IsAt}
use Rattle.sre_turns.proofs.bound.Prices.{some_steps}
use Rattle.sre_turns.specs.declared.Next.TheVariants as next
use Rattle.sre_turns.proofs.semantics.Moving.{in_role, at_instruction, turn_goes, turn_splits, both_wait_there}
use Rattle.sre_turns.proofs.semantics.Moving.{both_first, both_second, standing}
use Rattle.sre_turns.proofs.semantics.GoingBack.{later_again}
use Rattle.sre_turns.proofs.semantics.AfterSteps.{parted, run_on, has_run}
use Rattle.sre_turns.proofs.semantics.OneTurn.{loop_opened, loop_move}

pub repeat_step : (r : Run) (i v : ℕ) (c : StringCursor) (b b' : BoardValue) → Opcode r.words i opcode.REPEAT
    → Word r.words (i + 1) v → b' ≡ record b { frames = first_frame i ∷ b.frames }
    → Advances r (Instruction i) c b (next.At (i + 1 + v) c) b'
repeat_step r i v c b b' w wv eb all limit g =
    rw eb
    (turn_goes r (Instruction i) c b (Instruction (i + 1 + v)) c _ (at_instruction opcode.REPEAT ToRepeat refl w
    (record { there = word_within r.words (i + 1) v wv; is = rw (word_of r.words (i + 1) v wv) refl }))
    g.stands g.placed refl all limit g)

-- it comes to the loop's end
pub repeat_begun : (r : Run) (i v : ℕ) (c : StringCursor) (b : BoardValue) → Opcode r.words i opcode.REPEAT
    → Word r.words (i + 1) v → IsAt r (Instruction i) c b
    → IsAt r (Instruction (i + 1 + v)) c (with_loop (first_frame i) b)
repeat_begun r i v c b w wv x =
    let begun : BoardValue = with_loop (first_frame i) b in
    let y = run_on (spot (Instruction (i + 1 + v)) c begun) (at_instruction opcode.REPEAT ToRepeat refl w
    (record { there = word_within r.words (i + 1) v wv; is = rw (word_of r.words (i + 1) v wv) refl })) x.runs in
    record { outcomes = x.outcomes; turns = y.0; stands = x.stands; placed = x.placed; runs = y.2 }

-- a step at the end of a greedy loop, taken in the same step
pub repeat_further : (r : Run) (i v : ℕ) (c : StringCursor) (b b' : BoardValue) (n : Next)
    → Opcode r.words i opcode.REPEAT → Word r.words (i + 1) v → Opcode r.words (i + 1 + v) opcode.MAX_UNTIL
    → ((all : List Way) (limit : Limit) → Goes r all limit (Instruction (i + 1 + v)) c (with_loop (first_frame i) b)
    → Later r all limit n b') → Advances r (Instruction i) c b n b'
repeat_further r i v c b b' n w wv we h all limit g =
    let ended : BoardValue = with_loop (first_frame i) b in
    let begun = repeat_step r i v c b ended w wv refl all limit g in
    let at = begun.1 in
    let goes : Goes r all (earlier limit) (Instruction (i + 1 + v)) c ended =
    standing Going at.waits refl refl at.runs (omega arith) at.within at.stands at.placed
    (λ pl o x.
    let f = at.fares pl o x in
    let ks : List ℕ = i ∷ repeats b.frames in
    let one : toll r.words r.subject.end o (Instruction (i + 1 + v)) ks ≡ loop_toll r.words ks (i + 1 + v) =
    ap (λ q. toll_by r.words r.subject.end (i + 1 + v) ks (role q))
    (same_opcode r.words (i + 1 + v) o opcode.MAX_UNTIL x we) in
    let there : steps r.words (skip r.words (i + 1)) + loop_toll r.words ks (skip r.words (i + 1))
    ≡ steps r.words (i + 1 + v) + loop_toll r.words ks (i + 1 + v) =
    ap (λ k. steps r.words (i + 1 + k) + loop_toll r.words ks (i + 1 + k)) (word_of r.words (i + 1) v wv) in
    let had : share Going r.words r.subject.end opcode.REPEAT (spot (Instruction i) c b)
    ≡ steps r.words i + (steps r.words (skip r.words (i + 1)) + loop_toll r.words ks (skip r.words (i + 1))) =
    refl in
    record {
      here = f.here;
      fares = record {
        settled = f.fares.settled;
        trying = f.fares.trying;
        left =
            omega (
              arith,
              (g.fares pl opcode.REPEAT w).fares.left,
              some_steps r.words i,
              had,
              there,
              one,
            );
      };
    })
    at.confined in
    later_again r all limit n b' begun.0 (h all (earlier limit) goes)

-- the innermost loop, whose body ends at u, and its counts
pub record InLoop (r : Run) (o : Order) (u low high : ℕ) (b : BoardValue) (f : Frame) : Type 0 where
  pub code : Opcode r.words u (until_opcode o)
  pub inside : b.frames ≡ f ∷ drop 1 b.frames
  pub lowest : Word r.words (f.repeat + 2) low
  pub highest : Word r.words (f.repeat + 3) high

pub until_there : (r : Run) (o : Order) (u : ℕ) (c : StringCursor) (b : BoardValue) (f : Frame)
    → Opcode r.words u (until_opcode o) → IsAt r (Instruction u) c b → b.frames ≡ f ∷ drop 1 b.frames
    → (low : ℕ) × (high : ℕ) × InLoop r o u low high b f
until_there r o u c b f w x e =
    let h = loop_opened r.words (in_role (until_opcode o) (ToLoop o) (until_role o) w x.runs).1 e in
    (h.0, h.1, record { code = w; inside = e; lowest = h.2; highest = h.3 })

-- and its operands are there
pub until_operands : (r : Run) (o : Order) (u : ℕ) (c : StringCursor) (b : BoardValue) (f : Frame)
    → Opcode r.words u (until_opcode o) → IsAt r (Instruction u) c b → b.frames ≡ f ∷ drop 1 b.frames
    → f.repeat + 3 < length r.words
until_operands r o u c b f w x e =
    let loop = until_there r o u c b f w x e in
    word_within r.words (f.repeat + 3) loop.1 loop.2.highest

-- else there are two configurations, in order
abbrev pub body_spot : ℕ → StringCursor → BoardValue → Frame → Spot
body_spot u c b f = at_body f (Some c.position) (drop 1 b.frames) (spot (Instruction u) c b)

abbrev pub end_spot : ℕ → StringCursor → BoardValue → Spot
end_spot u c b = behind u (drop 1 b.frames) (spot (Instruction u) c b)

module _ (r : Run) (o : Order) (u low high : ℕ) (c : StringCursor) (b : BoardValue) where
  until_at : (f : Frame) (mv : Move) → InLoop r o u low high b f
      → mv ≡ until_move o low high u f (drop 1 b.frames) (spot (Instruction u) c b)
      → Moves r.words r.subject (spot (Instruction u) c b) mv
  until_at f mv h e =
      at_instruction (until_opcode o) (ToLoop o) (until_role o) h.code
      (loop_move r.words h.inside h.lowest h.highest e)

  -- below the least count a further body is tried
  pub until_below : (b' : BoardValue) (f : Frame) → InLoop r o u low high b f → f.count < low
      → b' ≡ record b { frames = next_frame f f.last ∷ drop 1 b.frames }
      → Advances r (Instruction u) c b (next.At (f.repeat + 4) c) b'
  until_below b' f h l eb all limit g =
      let below : nat_lt f.count low ≡ true = grind (arith, nat_tests) in
      rw eb
      (turn_goes r (Instruction u) c b (Instruction (f.repeat + 4)) c _ (until_at f _ h (rw below refl)) g.stands
      g.placed refl all limit g)

  -- the loop ends where no further one may be tried
  pub until_done : (b' : BoardValue) (f : Frame) → InLoop r o u low high b f → low ≤ f.count
      → may_repeat high f.count f.last c.position ≡ false → b' ≡ record b { frames = drop 1 b.frames }
      → Advances r (Instruction u) c b (next.At (u + 1) c) b'
  until_done b' f h l no_ eb all limit g =
      let beyond : nat_lt f.count low ≡ false = grind (arith, nat_tests) in
      rw eb
      (turn_goes r (Instruction u) c b (Instruction (u + 1)) c _ (until_at f _ h (rw (beyond, no_) refl)) g.stands
      g.placed refl all limit g)

  pub until_splits : (f : Frame) → InLoop r o u low high b f → low ≤ f.count
      → may_repeat high f.count f.last c.position ≡ true
      → Moves r.words r.subject (spot (Instruction u) c b) (in_order o (body_spot u c b f) (end_spot u c b))
  until_splits f h l y =
      let beyond : nat_lt f.count low ≡ false = grind (arith, nat_tests) in
      until_at f (in_order o (body_spot u c b f) (end_spot u c b)) h (rw (beyond, y) refl)

-- both can be reached
pub until_runs : (r : Run) (o : Order) (u low high : ℕ) (c : StringCursor) (b : BoardValue) (f : Frame)
    → InLoop r o u low high b f → low ≤ f.count → may_repeat high f.count f.last c.position ≡ true
    → IsAt r (Instruction u) c b → HasRun r (Instruction (f.repeat + 4)) c × HasRun r (Instruction (u + 1)) c
until_runs r Greedy u low high c b f h l y x =
    let t = parted (until_splits r Greedy u low high c b f h l y) x.runs in
    (has_run r (Instruction (f.repeat + 4)) c x.stands t.runs, has_run r (Instruction (u + 1)) c x.stands t.others)
until_runs r Lazy u low high c b f h l y x =
    let t = parted (until_splits r Lazy u low high c b f h l y) x.runs in
    (has_run r (Instruction (f.repeat + 4)) c x.stands t.others, has_run r (Instruction (u + 1)) c x.stands t.runs)

-- nothing comes of the body
pub until_refused : (r : Run) (o : Order) (u low high : ℕ) (c : StringCursor) (b b' : BoardValue) (f : Frame)
    → InLoop r o u low high b f → low ≤ f.count → may_repeat high f.count f.last c.position ≡ true
    → Refuses r (f.repeat + 4) c.position → b' ≡ record b { frames = drop 1 b.frames }
    → Advances r (Instruction u) c b (next.At (u + 1) c) b'
until_refused r Greedy u low high c b b' f h l y no_ eb all limit g =
    rw eb
    (both_second r (body_spot u c b f) (u + 1) c _ b.choices (λ os n x. no_ _ _ os n x) refl all limit
    (turn_splits r (Instruction u) c b _ _ c (until_splits r Greedy u low high c b f h l y) g.stands refl refl all limit
    g))
until_refused r Lazy u low high c b b' f h l y no_ eb all limit g =
    rw eb
    (both_first r (body_spot u c b f) (u + 1) c _ b.choices (λ os n x. no_ _ _ os n x) refl all limit
    (turn_splits r (Instruction u) c b _ _ c (until_splits r Lazy u low high c b f h l y) g.stands refl refl all limit
    g))

-- nothing comes of the loop's end
pub until_alone : (r : Run) (o : Order) (u low high : ℕ) (c : StringCursor) (b b' : BoardValue) (f : Frame)
    → InLoop r o u low high b f → low ≤ f.count → may_repeat high f.count f.last c.position ≡ true
    → Refuses r (u + 1) c.position → b' ≡ record b { frames = next_frame f (Some c.position) ∷ drop 1 b.frames }
    → Advances r (Instruction u) c b (next.At (f.repeat + 4) c) b'
until_alone r Greedy u low high c b b' f h l y no_ eb all limit g =
    rw eb
    (both_first r (end_spot u c b) (f.repeat + 4) c _ b.choices (λ os n x. no_ _ _ os n x) refl all limit
    (turn_splits r (Instruction u) c b _ _ c (until_splits r Greedy u low high c b f h l y) g.stands refl refl all limit
    g))
until_alone r Lazy u low high c b b' f h l y no_ eb all limit g =
    rw eb
    (both_second r (end_spot u c b) (f.repeat + 4) c _ b.choices (λ os n x. no_ _ _ os n x) refl all limit
    (turn_splits r (Instruction u) c b _ _ c (until_splits r Lazy u low high c b f h l y) g.stands refl refl all limit
    g))

-- the other waits on the backtrack stack
pub until_greedy : (r : Run) (u low high : ℕ) (c : StringCursor) (b b' : BoardValue) (f : Frame)
    → InLoop r Greedy u low high b f → low ≤ f.count → may_repeat high f.count f.last c.position ≡ true
    → b' ≡ record b {
      frames = next_frame f (Some c.position) ∷ drop 1 b.frames;
      choices = Else (Instruction (u + 1)) (drop 1 b.frames) c b.marks ∷ b.choices;
    } → Advances r (Instruction u) c b (next.At (f.repeat + 4) c) b'
until_greedy r u low high c b b' f h l y eb all limit g =
    rw eb
    (both_wait_there r (f.repeat + 4) (end_spot u c b) c c b _ b.choices refl g.stands refl all limit
    (turn_splits r (Instruction u) c b _ _ c (until_splits r Greedy u low high c b f h l y) g.stands refl refl all limit
    g))

pub until_lazy : (r : Run) (u low high : ℕ) (c : StringCursor) (b b' : BoardValue) (f : Frame)
    → InLoop r Lazy u low high b f → low ≤ f.count → may_repeat high f.count f.last c.position ≡ true → b' ≡ record b {
      frames = drop 1 b.frames;
      choices =
          Else (Instruction (f.repeat + 4)) (next_frame f (Some c.position) ∷ drop 1 b.frames) c b.marks ∷ b.choices;
    } → Advances r (Instruction u) c b (next.At (u + 1) c) b'
until_lazy r u low high c b b' f h l y eb all limit g =
    rw eb
    (both_wait_there r (u + 1) (body_spot u c b f) c c b _ b.choices refl g.stands refl all limit
    (turn_splits r (Instruction u) c b _ _ c (until_splits r Lazy u low high c b f h l y) g.stands refl refl all limit
    g))

-- boards, as they are changed
pub entered_board : (b left entered : BoardValue) (f g : Frame) → left ≡ record b { frames = drop 1 b.frames }
    → entered ≡ record left { frames = g ∷ left.frames } → g ≡ f → entered ≡ record b { frames = f ∷ drop 1 b.frames }
entered_board b left entered f g el ee eg = rw (ee, el, eg) refl

pub lazy_board : (b left entered saved again : BoardValue) (f g : Frame) (i : ℕ) (c : StringCursor)
    → left ≡ record b { frames = drop 1 b.frames } → entered ≡ record left { frames = g ∷ left.frames }
    → saved ≡ record entered { choices = Else (Instruction i) entered.frames c entered.marks ∷ entered.choices }
    → again ≡ record saved { frames = drop 1 saved.frames } → g ≡ f → again ≡ record b {
      frames = drop 1 b.frames;
      choices = Else (Instruction i) (f ∷ drop 1 b.frames) c b.marks ∷ b.choices;
    }
lazy_board b left entered saved again f g i c el ee es ea eg = rw (ea, es, ee, el, eg) refl

-- the same of a loop that was taken off the backtrack stack
pub taken_off : (b left : BoardValue) (f : Frame) → left ≡ record b { frames = drop 1 b.frames }
    → b.frames ≡ f ∷ drop 1 b.frames → with_loop f left ≡ b
taken_off b left f el inside = rw (el, ← inside) refl

pub entered_on : (b entered : BoardValue) (f g : Frame) → entered ≡ with_loop g b → g ≡ f → entered ≡ with_loop f b
entered_on b entered f g ee eg = rw (ee, eg) refl

pub saved_on : (b saved entered : BoardValue) (f g : Frame) (i : ℕ) (c : StringCursor)
    → saved ≡ record b { choices = Else (Instruction i) b.frames c b.marks ∷ b.choices }
    → entered ≡ record saved { frames = g ∷ saved.frames } → g ≡ f → entered ≡ record b {
      frames = f ∷ b.frames;
      choices = Else (Instruction i) b.frames c b.marks ∷ b.choices;
    }
saved_on b saved entered f g i c es ee eg = rw (ee, es, eg) refl
