-- Equivalent configurations with equivalent captures make equivalent steps, and close an atomic scope equally. By these
-- laws they have the same stops (SameComes), on which the memo of failures rests.
use Rattle.sre_turns.proofs.Terms.{◌≡◌, ℕ, ◌+◌, ◌*◌, ◌≤◌, Bool, true, false, cond, nat_lt, List, [], ◌∷◌, Option, Some}
use Rattle.sre_turns.proofs.Terms.{refl, sym, ap, subst, arith, ◌⊎◌, inl, inr, drop, ◌<◌, ⊤, nat_tests, true≢false}
use Rattle.sre_turns.proofs.Terms.{SreOpcode, Order, Greedy, Lazy, Positive, Negative, Marks, group, Way, may_repeat}
use Rattle.sre_turns.proofs.Terms.{first, Word, Opcode, word, skip, same_word, Role, role, Ahead, NotAhead, Owed}
use Rattle.sre_turns.proofs.Terms.{Further, Region, Again, Point, Spot, Move, End, Split, Enter, closing_move}
use Rattle.sre_turns.proofs.Terms.{first_frame, next_frame, at_body, behind, in_order, until_move, enter_body}
use Rattle.sre_turns.proofs.Terms.{again_move, LoopMove, Asks, asks, MarksAgree, OutcomesAlike, Within, PlacesAsk}
use Rattle.sre_turns.proofs.Terms.{GroupLies, AsksAt, AskedByPlace, PointAsks, LoopsAsk, Matters, MattersBehind, Moves}
use Rattle.sre_turns.proofs.Terms.{MovesAt, is_last, LoopsAlike, FramesAlike, least_from, Alike, goes_behind, Subject}
use Rattle.sre_turns.proofs.Terms.{Frame, Instruction, spot_at, Stop, Go, MarkLeads, RegionAsks, not, ◌&&◌, ◌||◌, min}
use Rattle.sre_turns.proofs.Terms.{nat_eq, None, ◌∙◌, unlimited, counted_to}
use Rattle.sre_model.specs.Roles.{ToRefer, ToCheckGroup}
use Rattle.sre_turns.specs.declared.Region.TheVariants.{AtomicGroup}
use Rattle.sre_turns.specs.Asked.{Lies}
use Rattle.sre_turns.proofs.memoization.Asked.{agree_less, agree_set, group_agrees}
use Rattle.sre_turns.proofs.semantics.Onward.{EndFrom}
use Rattle.sre_turns.proofs.semantics.OneTurn.{GoesOn, behind_test, behind_reference, behind_look, run_on, group_there}
use Rattle.sre_turns.proofs.semantics.OneTurn.{group_missing, Forks, greedy_run, lazy_run, next_alternative}
use Rattle.sre_turns.proofs.semantics.OneTurn.{next_shorter, next_longer, Begins, plain_loop, possessive_loop, Enters}
use Rattle.sre_turns.proofs.semantics.OneTurn.{atomic_group, lookaround, Turned, stopped, ended, went, forked, marked}
use Rattle.sre_turns.proofs.semantics.OneTurn.{grouped, begun, entered, looped, repeated, point_turned}

-- Equivalent loops: how long they stay so, and that they decide the same on a further body. So the memo of failures
-- stores of a loop its count, as far as it makes a difference, and one bit of its last body.

-- from a position on, so from a later one on
frame_later : (ws : List ℕ) (p q : ℕ) (f g : Frame) → p ≤ q → FramesAlike ws p f g → FramesAlike ws q f g
frame_later ws p q f g l h =
    record { repeat = h.repeat; count = h.count; last = λ k at. h.last k (omega (arith, l, at)) }

pub loops_later : (ws : List ℕ) (p q : ℕ) (fs gs : List Frame) → p ≤ q → LoopsAlike ws p fs gs → LoopsAlike ws q fs gs
loops_later ws p q [] [] l h = tt
loops_later ws p q (f ∷ fs) (g ∷ gs) l h = (frame_later ws p q f g l h.0, loops_later ws p q fs gs l h.1)
loops_later ws p q fs gs l h = absurd h

-- without the innermost one
pub loops_left : (ws : List ℕ) (p : ℕ) (fs gs : List Frame) → LoopsAlike ws p fs gs
    → LoopsAlike ws p (drop 1 fs) (drop 1 gs)
loops_left ws p [] [] h = tt
loops_left ws p (f ∷ fs) (g ∷ gs) h = h.1
loops_left ws p fs gs h = absurd h

-- loops are alike to themselves
pub frame-alike : (ws : List ℕ) (p : ℕ) (f : Frame) → FramesAlike ws p f f
frame-alike ws p f = record { repeat = refl; count = λ low high wl wh. refl; last = λ q at. refl }

pub loops-alike : (ws : List ℕ) (p : ℕ) (fs : List Frame) → LoopsAlike ws p fs fs
loops-alike ws p [] = tt
loops-alike ws p (f ∷ fs) = (frame-alike ws p f, loops-alike ws p fs)

-- a further body leaves them alike
pub next-alike : (ws : List ℕ) (p : ℕ) (f g : Frame) (a b : Option ℕ) → FramesAlike ws p f g
    → ((q : ℕ) → p ≤ q → is_last a q ≡ is_last b q) → FramesAlike ws p (next_frame f a) (next_frame g b)
next-alike ws p f g a b h last = record {
  repeat = h.repeat;
  count = λ low high wl wh. omega (arith, h.count low high wl wh);
  last = last;
}

-- they decide alike
module _ (ws : List ℕ) (p low high : ℕ) (f g : Frame) (h : FramesAlike ws p f g) (wl : Word ws (f.repeat + 2) low)
    (wh : Word ws (f.repeat + 3) high) where
  same_count : min f.count (counted_to low high) ≡ min g.count (counted_to low high)
  same_count = h.count low high wl wh

  -- whether a body is owed
  pub below-alike : nat_lt f.count low ≡ nat_lt g.count low
  below-alike = let same = same_count in grind (arith, nat_tests)

  under-alike : (nat_eq high unlimited || nat_lt f.count high) ≡ (nat_eq high unlimited || nat_lt g.count high)
  under-alike = let same = same_count in grind (arith, nat_tests)

  repeats : (count : ℕ) (last : Option ℕ) (q : ℕ)
      → may_repeat high count last q ≡ ((nat_eq high unlimited || nat_lt count high) && not (is_last last q))
  repeats count None q = grind (arith, nat_tests)
  repeats count (Some last) q = refl

  -- whether a further one may be tried
  pub repeat-alike : (q : ℕ) → p ≤ q → may_repeat high f.count f.last q ≡ may_repeat high g.count g.last q
  repeat-alike q at =
      repeats f.count f.last q
      ∙ ap (λ b. b && not (is_last f.last q)) under-alike
      ∙ ap (λ b. (nat_eq high unlimited || nat_lt g.count high) && not b) (h.last q at)
      ∙ sym (repeats g.count g.last q)

-- what matters in any case, is asked for at a point, or is in a further body of a loop, one by one
each_case : {B A L X : Type 0} → (B → X) → (A → X) → (L → X) → B ⊎ (A ⊎ L) → X
each_case f g h (inl e) = f e
each_case f g h (inr (inl e)) = g e
each_case f g h (inr (inr e)) = h e

-- two configurations of which the same comes, besides some captures that matter in any case
pub record Twins (base : ℕ → Type 0) (ws : List ℕ) (a : PlacesAsk) (x y : Spot) : Type 0 where
  pub alike : Alike ws x y
  pub marks : MarksAgree (Matters base ws a x.point x.frames) x.marks y.marks

-- so are those at one point, under loops that are alike from an earlier position on
twins : {base : ℕ → Type 0} {ws : List ℕ} {a : PlacesAsk} {pt : Point} {p q r : ℕ} {fs gs : List Frame} {m n : Marks}
    → q ≡ r → LoopsAlike ws p fs gs → p ≤ least_from pt q → MarksAgree (Matters base ws a pt fs) m n
    → Twins base ws a (spot_at pt fs q m) (spot_at pt gs r n)
twins {ws = ws} {pt = pt} {p = p} {q = q} {fs = fs} {gs = gs} same h l marks = record {
  alike = record { point = refl; position = same; loops = loops_later ws p (least_from pt q) fs gs l h };
  marks = marks;
}

-- an atomic scope of which the same comes, entered at one configuration or at another, where its body begins at the
-- third or the last
pub record EntersAlike (base : ℕ → Type 0) (ws : List ℕ) (a : PlacesAsk) (g : Region) (x y body other : Spot)
    : Type 0 where
  pub entered : Twins base ws a x y
  pub behind : MarksAgree (MattersBehind base ws a g x.frames) x.marks y.marks
  pub begins : Twins (MattersBehind base ws a g x.frames) ws a body other
  pub here : least_from x.point x.position ≡ x.position
  pub onward : goes_behind g ≡ true → x.position ≤ least_from body.point body.position

-- two steps of which the same comes
abbrev pub MovesAlike : (ℕ → Type 0) → List ℕ → PlacesAsk → Move → Move → Type 0
MovesAlike base ws a Stop Stop = ⊤
MovesAlike base ws a End End = ⊤
MovesAlike base ws a (Go x) (Go y) = Twins base ws a x y
MovesAlike base ws a (Split x x') (Split y y') = Twins base ws a x y × Twins base ws a x' y'
MovesAlike base ws a (Enter g x x') (Enter h y y') = (g ≡ h) × EntersAlike base ws a g x y x' y'
MovesAlike base ws a _ _ = ⊥

-- an atomic scope closes alike, where its body has alike outcomes, none of which stops before the configuration that it
-- is gone on behind
module _ (base : ℕ → Type 0) (ws : List ℕ) (a : PlacesAsk) (x y : Spot) (h : Twins base ws a x y)
    (here : least_from x.point x.position ≡ x.position) where
  loops_here : LoopsAlike ws x.position x.frames y.frames
  loops_here = subst (λ p. LoopsAlike ws p x.frames y.frames) here h.alike.loops

  behind_body : (pt : Point) (v w : Way) → v.stop ≡ w.stop
      → MarksAgree (Matters base ws a pt x.frames) v.marks w.marks
      → least_from pt v.stop ≡ v.stop → x.position ≤ v.stop
      → Twins base ws a (spot_at pt x.frames v.stop v.marks) (spot_at pt y.frames w.stop w.marks)
  behind_body pt v w same marks at l = twins same loops_here (omega (arith, at, l)) marks

  in_place : (t : ℕ) (m n : Marks) → MarksAgree (Matters base ws a (Instruction t) x.frames) m n
      → Twins base ws a (spot_at (Instruction t) x.frames x.position m)
      (spot_at (Instruction t) y.frames y.position n)
  in_place t m n marks = twins h.alike.position loops_here (omega arith) marks

  left_loop : (fs : List Frame) (k : ℕ) → LoopsAsk a (drop 1 fs) k → LoopsAsk a fs k
  left_loop [] k e = absurd e
  left_loop (f ∷ fs) k e = inr e

  pub closing-alike : (g : Region) (now after : List Way)
      → MarksAgree (MattersBehind base ws a g x.frames) x.marks y.marks
      → OutcomesAlike (MattersBehind base ws a g x.frames) now after
      → (goes_behind g ≡ true → EndFrom x.position now)
      → MovesAlike base ws a (closing_move g x now) (closing_move g y after)
  closing-alike g [] (w ∷ after) left same from = absurd same
  closing-alike g (v ∷ now) [] left same from = absurd same
  closing-alike (AtomicGroup t) (v ∷ now) (w ∷ after) left same from =
      behind_body (Instruction t) v w same.0 same.1 refl (from refl).0
  closing-alike (Ahead t) (v ∷ now) (w ∷ after) left same from = in_place t v.marks w.marks same.1
  closing-alike (NotAhead t) [] [] left same from = in_place t x.marks y.marks left
  closing-alike (NotAhead t) (v ∷ now) (w ∷ after) left same from = tt
  closing-alike Owed (v ∷ now) (w ∷ after) left same from = behind_body Again v w same.0 same.1 refl (from refl).0
  closing-alike (Further t) [] [] left same from =
      twins h.alike.position (loops_left ws x.position x.frames y.frames loops_here) (omega arith)
      (agree_less (MattersBehind base ws a (Further t) x.frames)
      (Matters base ws a (Instruction t) (drop 1 x.frames)) x.marks y.marks
      (λ k. each_case (λ e. inl e) (λ e. inr (inl (inr e))) (λ e. inr (inr (left_loop x.frames k e)))) left)
  closing-alike g [] [] left same from = tt
  closing-alike (Further t) (v ∷ now) (w ∷ after) left same from =
      behind_body Again v w same.0
      (agree_less (MattersBehind base ws a (Further t) x.frames) (Matters base ws a Again x.frames) v.marks w.marks
      (λ k. each_case (λ e. inl e) (λ e. inr (inl (inl e))) (λ e. inr (inr e))) same.1) refl (from refl).0

cond-alike : (base : ℕ → Type 0) (ws : List ℕ) (a : PlacesAsk) (b : Bool) (v w v' w' : Move)
    → MovesAlike base ws a v w → MovesAlike base ws a v' w' → MovesAlike base ws a (cond b v v') (cond b w w')
cond-alike base ws a true v w v' w' h k = h
cond-alike base ws a false v w v' w' h k = k

-- an atomic scope is entered alike, where the captures agree that matter there, behind it and in its body
enters-alike : (base : ℕ → Type 0) (ws : List ℕ) (a : PlacesAsk) (g : Region) (pt : Point) (p q j k : ℕ)
    (fs gs : List Frame) (m n : Marks) (same : ℕ → Type 0) → MarksAgree same m n → j ≡ k → LoopsAlike ws p fs gs
    → least_from pt p ≡ p → (goes_behind g ≡ true → p ≤ q) → ((v : ℕ) → Matters base ws a pt fs v → same v)
    → ((v : ℕ) → MattersBehind base ws a g fs v → same v) → ((v : ℕ) → Lies v (a.instruction j) → same v)
    → MovesAlike base ws a (Enter g (spot_at pt fs p m) (spot_at (Instruction j) [] q m))
    (Enter g (spot_at pt gs p n) (spot_at (Instruction k) [] q n))
enters-alike base ws a g pt p q j k fs gs m n same marks at loops here on before behind body = (
  refl,
  record {
    entered = twins refl loops (omega (arith, here)) (agree_less same (Matters base ws a pt fs) m n before marks);
    behind = agree_less same (MattersBehind base ws a g fs) m n behind marks;
    begins = record {
      alike = record { point = ap (λ r. Instruction r) at; position = refl; loops = tt };
      marks = agree_less same (Matters (MattersBehind base ws a g fs) ws a (Instruction j) []) m n
          (λ v. each_case (behind v) (body v) (λ e. absurd e)) marks;
    };
    here = here;
    onward = on;
  },
)

-- of loops that are alike the innermost ones are, and have the same operands
loops_opened : {ws : List ℕ} {p : ℕ} {turn other : ℕ → ℕ → Frame → List Frame → Move} {a b : Spot} {v w : Move}
    → LoopsAlike ws p a.frames b.frames → (x : LoopMove ws turn a v) (y : LoopMove ws other b w)
    → FramesAlike ws p x.frame y.frame × LoopsAlike ws p x.outer y.outer × (x.low ≡ y.low) × (x.high ≡ y.high)
loops_opened {ws} {p} h x y =
    let both : LoopsAlike ws p (x.frame ∷ x.outer) (y.frame ∷ y.outer) = rw (x.inside, y.inside) at h in
    let same = λ (k v w : ℕ) (e : Word ws (x.frame.repeat + k) v) (f : Word ws (y.frame.repeat + k) w).
    same_word ws (y.frame.repeat + k) v w (subst (λ r. Word ws (r + k) v) both.0.repeat e) f in
    (both.0, both.1, same 2 x.low y.low x.lowest y.lowest, same 3 x.high y.high x.highest y.highest)

-- what is asked for of captures in a loop: where it ends, and in a further body
pub record LoopAsks (ws : List ℕ) (a : PlacesAsk) (u : ℕ) (pt : Point) (f : Frame) (fs : List Frame) : Type 0 where
  pub behind : (k : ℕ) → Lies k (a.instruction (u + 1)) → PointAsks ws a pt (f ∷ fs) k
  pub again : (last : Option ℕ) (k : ℕ) → PointAsks ws a pt (next_frame f last ∷ fs) k → PointAsks ws a pt (f ∷ fs) k

-- a further body of a loop, or its end
module _ (base : ℕ → Type 0) (ws : List ℕ) (a : PlacesAsk) (u low high p : ℕ) (f g : Frame) (fs gs : List Frame)
    (m n : Marks) (pt : Point) (h : FramesAlike ws p f g) (hs : LoopsAlike ws p fs gs)
    (marks : MarksAgree (Matters base ws a pt (f ∷ fs)) m n) (asks : LoopAsks ws a u pt f fs)
    (wl : Word ws (f.repeat + 2) low) (wh : Word ws (f.repeat + 3) high) where
  abbrev in_one : Spot
  in_one = spot_at pt (f ∷ fs) p m

  abbrev in_other : Spot
  in_other = spot_at pt (g ∷ gs) p n

  abbrev Last : Option ℕ → Option ℕ → Type 0
  Last b c = (q : ℕ) → p ≤ q → is_last b q ≡ is_last c q

  fewer : (less : ℕ → Type 0) → ((k : ℕ) → less k → Matters base ws a pt (f ∷ fs) k) → MarksAgree less m n
  fewer less part = agree_less (Matters base ws a pt (f ∷ fs)) less m n part marks

  body-alike : (b c : Option ℕ) → Last b c → Twins base ws a (at_body f b fs in_one) (at_body g c gs in_other)
  body-alike b c same = record {
    alike = record {
      point = ap (λ r. Instruction (r + 4)) h.repeat;
      position = refl;
      loops = (next-alike ws p f g b c h same, hs);
    };
    marks = fewer (Matters base ws a (Instruction (f.repeat + 4)) (next_frame f b ∷ fs))
        (λ k. each_case (λ e. inl e) (λ e. inr (inr (inl e))) (λ e. inr (inr e)));
  }

  end-alike : Twins base ws a (behind u fs in_one) (behind u gs in_other)
  end-alike =
      twins refl hs (omega arith)
      (fewer (Matters base ws a (Instruction (u + 1)) fs)
      (λ k. each_case (λ e. inl e) (λ e. inr (inl (asks.behind k e))) (λ e. inr (inr (inr e)))))

  order-alike : (o : Order) → MovesAlike base ws a (in_order o (at_body f (Some p) fs in_one) (behind u fs in_one))
      (in_order o (at_body g (Some p) gs in_other) (behind u gs in_other))
  order-alike Greedy = (body-alike (Some p) (Some p) (λ q at. refl), end-alike)
  order-alike Lazy = (end-alike, body-alike (Some p) (Some p) (λ q at. refl))

  pub until-alike : (o : Order)
      → MovesAlike base ws a (until_move o low high u f fs in_one) (until_move o low high u g gs in_other)
  until-alike o =
      rw (
        ← below-alike ws p low high f g h wl wh,
        ← repeat-alike ws p low high f g h wl wh p (omega arith),
      )
      (cond-alike base ws a (nat_lt f.count low) _ _ _ _ (body-alike f.last g.last h.last)
      (cond-alike base ws a (may_repeat high f.count f.last p) _ _ _ _ (order-alike o) end-alike))

  -- of a possessive loop
  enter-alike : (k : Region) (b c : Option ℕ) → least_from pt p ≡ p → Last b c
      → ((v : ℕ) → RegionAsks ws a k (next_frame f b ∷ fs) v → PointAsks ws a pt (f ∷ fs) v)
      → MovesAlike base ws a (enter_body k f b fs in_one) (enter_body k g c gs in_other)
  enter-alike k b c here same region =
      enters-alike base ws a k pt p p (f.repeat + 4) (g.repeat + 4) (next_frame f b ∷ fs) (next_frame g c ∷ gs) m n
      (Matters base ws a pt (f ∷ fs)) marks (ap (λ r. r + 4) h.repeat) (next-alike ws p f g b c h same, hs) here
      (λ e. omega arith) (λ v. each_case (λ e. inl e) (λ e. inr (inl (asks.again b v e))) (λ e. inr (inr e)))
      (λ v. each_case (λ e. inl e) (λ e. inr (inl (region v e))) (λ e. inr (inr e))) (λ v e. inr (inr (inl e)))

  pub again-alike : least_from pt p ≡ p
      → ((b : Option ℕ) (v : ℕ) → PointAsks ws a Again (next_frame f b ∷ fs) v → PointAsks ws a pt (f ∷ fs) v)
      → MovesAlike base ws a (again_move low high u f fs in_one) (again_move low high u g gs in_other)
  again-alike here loop =
      rw (
        ← below-alike ws p low high f g h wl wh,
        ← repeat-alike ws p low high f g h wl wh p (omega arith),
      )
      (cond-alike base ws a (nat_lt f.count low) _ _ _ _ (enter-alike Owed f.last g.last here h.last (loop f.last))
      (cond-alike base ws a (may_repeat high f.count f.last p) _ _ _ _
      (enter-alike (Further (u + 1)) (Some p) (Some p) here (λ q at. refl) last_body) end-alike))
    where
      last_body : (v : ℕ) → RegionAsks ws a (Further (u + 1)) (next_frame f (Some p) ∷ fs) v
          → PointAsks ws a pt (f ∷ fs) v
      last_body v (inl e) = loop (Some p) v e
      last_body v (inr e) = asks.behind v e

-- what is told of places goes along the graph of control flow
module _ (root : ℕ → Type 0) (ws : List ℕ) (a : PlacesAsk) where
  abbrev Told : ℕ → Role → Type 0
  Told i f = AsksAt root ws a (a.instruction i) f i

  goes_on_asks : {s : Subject} {i p q : ℕ} {f : Role} {pt : Point} → Told i f → GoesOn ws s i p f pt q
      → (fs : List Frame) (k : ℕ) → PointAsks ws a pt fs k → Lies k (a.instruction i)
  goes_on_asks told (behind_test t passed) fs k e = told.each _ _ t k e
  goes_on_asks told behind_reference fs k e = told.1 k e
  goes_on_asks told behind_look fs k e = told.0 k e
  goes_on_asks told (run_on operands more) fs k e = e
  goes_on_asks told group_there fs k e = told.1.1 k e
  goes_on_asks told group_missing fs k e = told.1.0 k e
  goes_on_asks told on fs k e = told k e

  begins_asks : {i : ℕ} {f : Role} {pt : Point} → Told i f → Begins ws i f pt
      → ((fs : List Frame) (k : ℕ) → PointAsks ws a pt (first_frame i ∷ fs) k → Lies k (a.instruction i))
      × Within (a.instruction (i + 4)) (a.instruction i)
  begins_asks told plain_loop = ((λ fs k e. told.0 k e), told.1)
  begins_asks told possessive_loop = ((λ fs k e. told.0 k e), told.1)

  enters_asks : {i back j : ℕ} {f : Role} {g : Region} → Told i f → Enters ws i f back j g
      → ((fs : List Frame) (k : ℕ) → RegionAsks ws a g fs k → Lies k (a.instruction i))
      × Within (a.instruction j) (a.instruction i)
  enters_asks told atomic_group = ((λ fs k e. told.0 k e), told.1)
  enters_asks told (lookaround {sign = Positive} there) = ((λ fs k e. told.0 k e), told.1)
  enters_asks told (lookaround {sign = Negative} there) = ((λ fs k e. told.0 k e), told.1)

  group_asked : (i g : ℕ) (f : Role) → asks f ≡ true → Told i f → Asks ws g → Word ws (i + 1) g
      → GroupLies root (a.instruction i) g
  group_asked i g ToRefer e told asked there = told.0.each g asked there
  group_asked i g ToCheckGroup e told asked there = told.0.each g asked there
  group_asked i g f e told asked there = absurd (true≢false (sym e))

  forks_ask : {s : Subject} {p q : ℕ} {pt first rest : Point} → AskedByPlace root ws a → Forks ws s p pt first rest q
      → (fs : List Frame) (k : ℕ)
      → (PointAsks ws a first fs k → PointAsks ws a pt fs k) × (PointAsks ws a rest fs k → PointAsks ws a pt fs k)
  forks_ask told (greedy_run {i = i} o at is operands full) fs k =
      let asks = subst (Told i) is (told.instruction i o at) in (asks k, asks k)
  forks_ask told (lazy_run {i = i} o at is operands full) fs k =
      let asks = subst (Told i) is (told.instruction i o at) in (asks k, asks k)
  forks_ask told (next_alternative {q = q} inside other) fs k =
      let some : 0 < word ws q = grind (arith, nat_tests) in
      ((told.alternatives q).first some k, (told.alternatives q).others some k)
  forks_ask told (next_shorter some) fs k = ((λ e. e), (λ e. e))
  forks_ask told (next_longer operands past more passed) fs k = ((λ e. e), (λ e. e))

-- steps at a point and a position, under loops that are alike
module _ (root base : ℕ → Type 0) (rooted : (k : ℕ) → root k → base k) (ws : List ℕ) (a : PlacesAsk)
    (told : AskedByPlace root ws a) (s : Subject) (p : ℕ) (fs gs : List Frame) (m n : Marks) where
  abbrev Agree : Point → Type 0
  Agree pt = MarksAgree (Matters base ws a pt fs) m n

  told_as : (i : ℕ) {f : Role} (o : SreOpcode) → Opcode ws i o → role o ≡ f → AsksAt root ws a (a.instruction i) f i
  told_as i {f} o at is = subst (λ r. AsksAt root ws a (a.instruction i) r i) is (told.instruction i o at)

  onward-alike : (pt at : Point) (q : ℕ) → LoopsAlike ws (least_from pt p) fs gs → Agree pt
      → least_from pt p ≤ least_from at q → ((k : ℕ) → PointAsks ws a at fs k → PointAsks ws a pt fs k)
      → Twins base ws a (spot_at at fs q m) (spot_at at gs q n)
  onward-alike pt at q h marks l fewer =
      twins refl h l
      (agree_less (Matters base ws a pt fs) (Matters base ws a at fs) m n
      (λ k. each_case (λ e. inl e) (λ e. inr (inl (fewer k e))) (λ e. inr (inr e))) marks)

  -- at an instruction
  module _ (i : ℕ) (h : LoopsAlike ws p fs gs) (marks : Agree (Instruction i)) where
    -- a MARK sets its own anew
    set_anew : (v : ℕ) → MarkLeads ws a (a.instruction i) i → Word ws (i + 1) v → (k : ℕ)
        → Matters base ws a (Instruction (i + 2)) fs k → Matters base ws a (Instruction i) fs k ⊎ (k ≡ v)
    set_anew v leads there k =
        each_case (λ e. inl (inl e)) (λ e. elim (leads.each v there k e) [
          | (inl own) ↦ inl (inr (inl own))
          | (inr new) ↦ inr new
        ]) (λ e. inl (inr (inr e)))

    -- the group of a reference or a condition is the same in both
    same_asked : (g : ℕ) → GroupLies root (a.instruction i) g → group m g ≡ group n g
    same_asked g lies =
        group_agrees (Matters base ws a (Instruction i) fs) m n g (matters (2 * g) lies.start)
        (matters (2 * g + 1) lies.end) marks
      where
        matters : (k : ℕ) → Lies k (a.instruction i) ⊎ root k → Matters base ws a (Instruction i) fs k
        matters k (inl e) = inr (inl e)
        matters k (inr e) = inl (rooted k e)

    -- a loop begins
    begins-alike : (pt : Point) → ((k : ℕ) → PointAsks ws a pt (first_frame i ∷ fs) k → Lies k (a.instruction i))
        → Within (a.instruction (i + 4)) (a.instruction i) → least_from pt p ≡ p
        → Twins base ws a (spot_at pt (first_frame i ∷ fs) p m) (spot_at pt (first_frame i ∷ gs) p n)
    begins-alike pt at body same =
        twins refl (frame-alike ws p (first_frame i), h) (omega (arith, same))
        (agree_less (Matters base ws a (Instruction i) fs) (Matters base ws a pt (first_frame i ∷ fs)) m n begun marks)
      where
        begun : (k : ℕ) → Matters base ws a pt (first_frame i ∷ fs) k → Matters base ws a (Instruction i) fs k
        begun k = each_case (λ e. inl e) (λ e. inr (inl (at k e))) (λ e. elim e [
          | (inl again) ↦ inr (inl (body k again))
          | (inr outer) ↦ inr (inr outer)
        ])

  turn-alike : {pt : Point} {v w : Move} → Turned ws s p fs gs m n pt v w → LoopsAlike ws (least_from pt p) fs gs
      → Agree pt → MovesAlike base ws a v w
  turn-alike stopped h marks = tt
  turn-alike (ended o at is) h marks = tt
  turn-alike (went {i = i} x) h marks =
      onward-alike (Instruction i) x.point x.position h marks x.onward
      (goes_on_asks root ws a (told.instruction i x.code x.there) x.goes fs)
  turn-alike (forked {pt = pt} {first = first} {rest = rest} {q = q} f one other on) h marks = (
    onward-alike pt first q h marks one (λ k. (forks_ask root ws a told f fs k).0),
    onward-alike pt rest q h marks other (λ k. (forks_ask root ws a told f fs k).1),
  )
  turn-alike (marked {i = i} {k = k} o at is there) h marks =
      twins refl h (omega arith)
      (agree_set (Matters base ws a (Instruction i) fs) (Matters base ws a (Instruction (i + 2)) fs) m n k p
      (set_anew i h marks k (told_as i o at is) there) marks)
  turn-alike (grouped {i = i} {g = g} o at is asked there v w each) h marks =
      subst (λ span. MovesAlike base ws a (v (group m g)) (w span))
      (same_asked i h marks g (group_asked root ws a i g (role o) is (told.instruction i o at) asked there))
      (turn-alike (each (group m g)) h marks)
  turn-alike (begun {i = i} {pt = pt} o at b same) h marks =
      let begins = begins_asks root ws a (told.instruction i o at) b in
      begins-alike i h marks pt (begins.0 fs) begins.1 same
  turn-alike (entered {i = i} {j = j} {q = q} {g = g} o at b l k on) h marks =
      let enters = enters_asks root ws a (told.instruction i o at) b in
      enters-alike base ws a g (Instruction i) p q j j fs gs m n (Matters base ws a (Instruction i) fs) marks refl h
      refl on (λ v e. e) (λ v. each_case (λ e. inl e) (λ e. inr (inl (enters.0 fs v e))) (λ e. inr (inr e)))
      (λ v e. inr (inl (enters.1 v e)))
  turn-alike (looped {u = u} o order at is x y) h marks =
      let loops = loops_opened h x y in
      rw (x.is, y.is, ← loops.2, ← loops.3)
      (until-alike base ws a u x.low x.high p x.frame y.frame x.outer y.outer m n (Instruction u) loops.0 loops.1
      (subst (λ l. MarksAgree (Matters base ws a (Instruction u) l) m n) x.inside marks)
      (record { behind = told_as u o at is; again = λ last k e. e }) x.lowest x.highest order)
  turn-alike (repeated x y) h marks =
      let loops = loops_opened h x y in
      let end : skip ws (x.frame.repeat + 1) ≡ skip ws (y.frame.repeat + 1) =
      ap (λ r. skip ws (r + 1)) loops.0.repeat in
      rw (x.is, y.is, ← loops.2, ← loops.3, ← end)
      (again-alike base ws a (skip ws (x.frame.repeat + 1)) x.low x.high p x.frame y.frame x.outer y.outer m n Again
      loops.0 loops.1 (subst (λ l. MarksAgree (Matters base ws a Again l) m n) x.inside marks)
      (record { behind = λ k e. e; again = λ last k e. e }) x.lowest x.highest refl (λ last k e. e))

-- equivalent configurations make alike steps
pub turns-alike : (root base : ℕ → Type 0) → ((k : ℕ) → root k → base k) → (ws : List ℕ) (a : PlacesAsk)
    → AskedByPlace root ws a → (s : Subject) (x y : Spot) (v w : Move) → Twins base ws a x y → Moves ws s x v
    → Moves ws s y w → MovesAlike base ws a v w
turns-alike root base rooted ws a told s x y v w twins hv hw =
    let h : Alike ws x y = twins.alike in
    let moved : MovesAt ws s x.point (spot_at x.point y.frames x.position y.marks) w =
    subst (λ q. MovesAt ws s x.point (spot_at x.point y.frames q y.marks) w) (sym h.position)
    (subst (λ pt. MovesAt ws s pt (spot_at pt y.frames y.position y.marks) w) (sym h.point) hw) in
    turn-alike root base rooted ws a told s x.position x.frames y.frames x.marks y.marks
    (point_turned ws s x.position x.frames y.frames x.marks y.marks x.point v w hv moved) h.loops twins.marks
