-- Equivalent configurations with equivalent captures have equivalent outcomes in as many steps. Hopelessness rests on
-- where these stop, the step bound on the number of steps: no configuration leads to an equivalent one.
use Rattle.sre_turns.proofs.Terms.{◌≡◌, ℕ, suc, ◌+◌, List, [], ◌∷◌, refl, sym, ap, subst, arith, inl, inr, Bool, true}
use Rattle.sre_turns.proofs.Terms.{Some, Marks, Way, SameStops, Again, Point, Region, Spot, Move, End, Split, Enter}
use Rattle.sre_turns.proofs.Terms.{closing_move, HasReference, Runs, turns, Comes, stops, ends, goes, splits, enters}
use Rattle.sre_turns.proofs.Terms.{least_from, LoopsAlike, Alike, AskedMark, MarksAlike, OutcomesAlike, PlacesAsk}
use Rattle.sre_turns.proofs.Terms.{AskedByPlace, PointAsks, LoopsAsk, Matters, MattersBehind, Subject, Frame}
use Rattle.sre_turns.proofs.Terms.{Instruction, spot_at, Stop, Go, slice_get, MarksIdle, SaysOfBodies, SaysOf, AreIdle}
use Rattle.sre_turns.specs.Asked.{Lies}
use Rattle.sre_turns.proofs.memoization.AlikeTurns.{loops-alike, Twins, EntersAlike, MovesAlike, closing-alike}
use Rattle.sre_turns.proofs.memoization.AlikeTurns.{turns-alike}
use Rattle.sre_turns.proofs.Analyses.{told_alike}
use Rattle.sre_turns.proofs.semantics.Onward.{outcomes-onward}
use Rattle.sre_turns.proofs.memoization.Asked.{agree_less, outcomes_appended, stops_of, both_agree, start_asked}
use Rattle.sre_turns.proofs.memoization.Asked.{end_asked, apart_alike}

-- a region closes alike: its body ends no earlier than where it is gone on from
region-alike : (base : ℕ → Type 0) (ws : List ℕ) (a : PlacesAsk) (s : Subject) (g : Region) (x y body other : Spot)
    (now after : List Way) (n : ℕ) → EntersAlike base ws a g x y body other → Runs ws s body now n
    → OutcomesAlike (MattersBehind base ws a g x.frames) now after
    → MovesAlike base ws a (closing_move g x now) (closing_move g y after)
region-alike base ws a s g x y body other now after n h d same =
    closing-alike base ws a x y h.entered h.here g now after h.behind same
    (λ on. outcomes-onward ws s x.position (h.onward on) d)

-- where some marks matter in any case, and others by what is told of places
module _ (root : ℕ → Type 0) (ws : List ℕ) (a : PlacesAsk) (told : AskedByPlace root ws a) (s : Subject) where
  abbrev Rooted : (ℕ → Type 0) → Type 0
  Rooted base = (k : ℕ) → root k → base k

  mutual
    pub twins_come : (base : ℕ → Type 0) → Rooted base → {x y : Spot} {os us : List Way} {n k : ℕ}
        → Twins base ws a x y → Runs ws s x os n → Runs ws s y us k → OutcomesAlike base os us × (n ≡ k)
    twins_come base rooted {x} {y} h (turns v hv d) (turns w hw e) =
        twins_after base rooted x y v w h (turns-alike root base rooted ws a told s x y v w h hv hw) d e

    twins_after : (base : ℕ → Type 0) → Rooted base → (x y : Spot) {os us : List Way} {n k : ℕ} (v w : Move)
        → Twins base ws a x y → MovesAlike base ws a v w → Comes ws s x v os n → Comes ws s y w us k
        → OutcomesAlike base os us × (n ≡ k)
    twins_after base rooted x y Stop Stop at h stops stops = (tt, refl)
    twins_after base rooted x y End End at h ends ends =
        ((at.alike.position, (λ k e. at.marks k (inl e)), tt), refl)
    twins_after base rooted x y (Go v) (Go w) at h (goes d) (goes e) =
        let same = twins_come base rooted h d e in (same.0, ap (λ n. suc n) same.1)
    twins_after base rooted x y (Split v v') (Split w w') at h (splits d d') (splits e e') =
        let one = twins_come base rooted h.0 d e in
        let two = twins_come base rooted h.1 d' e' in
        (outcomes_appended base _ _ _ _ one.0 two.0, omega (arith, one.1, two.1))
    twins_after base rooted x y (Enter g v v') (Enter k w w') at h (enters {now = now} {n₁ = n₁} lies d d')
        (enters {now = after} {os = us} {n₂ = k₂} lies' e e') =
        let behind : ℕ → Type 0 = MattersBehind base ws a g v.frames in
        let body = twins_come behind (λ k e. inl (rooted k e)) h.1.begins d e in
        let turn = region-alike base ws a s g v w v' w' now after n₁ h.1 d body.0 in
        let moved : Comes ws s w (closing_move g w after) us k₂ =
        subst (λ region. Comes ws s w (closing_move region w after) us k₂) (sym h.0) e' in
        let rest = twins_after base rooted v w (closing_move g v now) (closing_move g w after) h.1.entered turn d'
        moved in
        (rest.0, omega (arith, body.1, rest.1))
    twins_after base rooted x y v w at h d e = absurd h

-- from which no mark is asked for anywhere
abbrev nowhere : PlacesAsk
nowhere = record {
  instruction = λ i. record { from = 0; end = 0 };
  alternatives = λ q. record { from = 0; end = 0 };
}

-- so it is where the marks of groups that are asked for matter in any case
module _ (ws : List ℕ) where
  anywhere : AskedByPlace (AskedMark ws) ws nowhere
  anywhere =
      told_alike (AskedMark ws) ws nowhere (record { from = 0; end = 0 }) (λ i. refl) (λ q. refl)
      (λ i g asked w. record { start = inr (start_asked ws g asked); end = inr (end_asked ws g asked) })

  -- then no other mark matters
  none_in_loops : (fs : List Frame) (k : ℕ) → LoopsAsk nowhere fs k → ⊥
  none_in_loops [] k e = e
  none_in_loops (f ∷ fs) k (inl e) = absurd (omega (arith, e.1))
  none_in_loops (f ∷ fs) k (inr e) = none_in_loops fs k e

  none_at : (pt : Point) (fs : List Frame) (k : ℕ) → PointAsks ws nowhere pt fs k → ⊥
  none_at Again [] k e = e
  none_at Again (f ∷ fs) k e = absurd (omega (arith, e.1))
  none_at pt fs k e = grind arith

  asked_alone : (pt : Point) (fs : List Frame) (k : ℕ) → Matters (AskedMark ws) ws nowhere pt fs k → AskedMark ws k
  asked_alone pt fs k (inl e) = e
  asked_alone pt fs k (inr (inl e)) = absurd (none_at pt fs k e)
  asked_alone pt fs k (inr (inr e)) = absurd (none_in_loops fs k e)

module _ (ws : List ℕ) (s : Subject) where
  -- so alike spots have the same stops, where their marks are alike
  same_stops : {x y : Spot} {os us : List Way} {n k : ℕ} → Alike ws x y → MarksAlike ws x.marks y.marks
      → Runs ws s x os n → Runs ws s y us k → SameStops os us × (n ≡ k)
  same_stops {x} {y} h marks d e =
      let twins : Twins (AskedMark ws) ws nowhere x y = record {
        alike = h;
        marks = agree_less (AskedMark ws) (Matters (AskedMark ws) ws nowhere x.point x.frames) x.marks y.marks
            (asked_alone ws x.point x.frames) marks;
      } in
      let both = twins_come (AskedMark ws) ws nowhere (anywhere ws) s (AskedMark ws) (λ k e. e) twins d e in
      (stops_of (AskedMark ws) _ _ both.0, both.1)

  -- as they are where both are alike to the same ones
  pub marked_come : (m : Marks) {x y : Spot} {os us : List Way} {n k : ℕ} → Alike ws x y → MarksAlike ws m x.marks
      → MarksAlike ws m y.marks → Runs ws s x os n → Runs ws s y us k → SameStops os us × (n ≡ k)
  marked_come m {x} {y} h one other d e =
      same_stops h (both_agree (AskedMark ws) m x.marks y.marks one other) d e

  -- and where the words have no reference
  pub same_comes : (HasReference ws → ⊥) → {x y : Spot} {os us : List Way} {n k : ℕ} → Alike ws x y
      → Runs ws s x os n → Runs ws s y us k → SameStops os us × (n ≡ k)
  same_comes none {x} {y} h d e = same_stops h (apart_alike ws none x.marks y.marks) d e

  -- so marks tell nothing there
  pub marks_apart : (HasReference ws → ⊥) → (x : Spot) (m : Marks) {os us : List Way} {n k : ℕ} → Runs ws s x os n
      → Runs ws s (record x { marks = m }) us k → SameStops os us × (n ≡ k)
  marks_apart none x m = same_comes none (record {
    point = refl;
    position = refl;
    loops = loops-alike ws (least_from x.point x.position) x.frames;
  })

-- and where no mark is asked for from a spot on, before it is set anew, by what is told of places
module _ (ws : List ℕ) (a : PlacesAsk) (told : AskedByPlace (λ k. ⊥) ws a) where
  -- of loops that are alike the same marks are asked for
  loops_ask : (p k : ℕ) (fs gs : List Frame) → LoopsAlike ws p fs gs → LoopsAsk a fs k ≡ LoopsAsk a gs k
  loops_ask p k [] [] h = refl
  loops_ask p k (f ∷ fs) (g ∷ gs) h = rw (h.0.repeat, loops_ask p k fs gs h.1) refl
  loops_ask p k fs gs h = absurd h

  point_asks : (pt : Point) (p k : ℕ) (fs gs : List Frame) → LoopsAlike ws p fs gs
      → PointAsks ws a pt fs k ≡ PointAsks ws a pt gs k
  point_asks Again p k [] [] h = refl
  point_asks Again p k (f ∷ fs) (g ∷ gs) h = rw h.0.repeat refl
  point_asks Again p k fs gs h = absurd h
  point_asks pt p k fs gs h = refl

  -- none matters
  abbrev NoneMatters : Spot → Type 0
  NoneMatters x = (k : ℕ) → Matters (λ k. ⊥) ws a x.point x.frames k → ⊥

  matter_alike : (x y : Spot) → Alike ws x y → (k : ℕ)
      → Matters (λ k. ⊥) ws a x.point x.frames k ≡ Matters (λ k. ⊥) ws a y.point y.frames k
  matter_alike x y h k =
      let p : ℕ = least_from x.point x.position in
      rw (← h.point, point_asks x.point p k x.frames y.frames h.loops, loops_ask p k x.frames y.frames h.loops) refl

  -- spots that are alike to one another
  idle_come : (s : Subject) (x y : Spot) {os us : List Way} {n k : ℕ} → NoneMatters x → Alike ws x y
      → Runs ws s x os n → Runs ws s y us k → SameStops os us
  idle_come s x y none h d e =
      let twins : Twins (λ k. ⊥) ws a x y = record { alike = h; marks = λ k e. absurd (none k e) } in
      stops_of (λ k. ⊥) _ _ (twins_come (λ k. ⊥) ws a told s (λ k. ⊥) (λ k e. e) twins d e).0

  pub marks_idle : (x : Spot) → NoneMatters x → MarksIdle ws x
  marks_idle x none = record {
    onward = λ s y os us n k h d e. idle_come s x y none h d e;
    back = λ s y os us n k h d e. idle_come s y x (λ m e. none m (subst (λ t. t) (matter_alike y x h m) e)) h d e;
  }

  -- so it is where a list says yes of no place from which a mark may be asked for
  pub are_idle : (list : List Bool)
      → ((i : ℕ) → slice_get list i ≡ Some true → (k : ℕ) → Lies k (a.instruction i) → ⊥) → AreIdle ws list
  are_idle list none = record {
    each = λ i fs p m says. marks_idle (spot_at (Instruction i) fs p m) (matters_none i fs says);
  }
    where
      loops_none : (fs : List Frame) → SaysOfBodies list fs → (k : ℕ) → LoopsAsk a fs k → ⊥
      loops_none [] says k e = e
      loops_none (f ∷ fs) says k (inl e) = none (f.repeat + 4) says.0 k e
      loops_none (f ∷ fs) says k (inr e) = loops_none fs says.1 k e

      matters_none : (i : ℕ) (fs : List Frame) → SaysOf list fs i → (k : ℕ)
          → Matters (λ k. ⊥) ws a (Instruction i) fs k → ⊥
      matters_none i fs says k (inl e) = e
      matters_none i fs says k (inr (inl e)) = none i says.0 k e
      matters_none i fs says k (inr (inr e)) = loops_none fs says.1 k e

-- of no place a list says so that has none
pub none_idle : (ws : List ℕ) → AreIdle ws []
none_idle ws = record { each = λ i fs p m says. absurd (cc (says.0)) }
