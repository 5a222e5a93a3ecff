-- Where the body of an atomic scope ends: each instruction that is tried inside has that end as its first outcome, so
-- has each equivalent configuration, and there the machine may go to the end at once.
-- The memo of body ends rests on this.
use Rattle.sre_turns.proofs.Terms.{◌≡◌, ℕ, ◌≤◌, true, List, [], ◌∷◌, drop, refl, subst, arith, ◌+◌, ◌++◌, sym, ap, ◌∙◌}
use Rattle.sre_turns.proofs.Terms.{AllByRecursion, each-append, each-both, each-weaken, Way, first, here, HereIn}
use Rattle.sre_turns.proofs.Terms.{EndsIn, Limit, Instruction, spot_at, Stop, Go, BoardValue, Run, StringCursor}
use Rattle.sre_turns.proofs.Terms.{Subject, Runs, turns, Comes, stops, ends, goes, splits, enters, Waits, otherwise}
use Rattle.sre_turns.proofs.Terms.{tried, Arrives, Ends, Later, spot, point_behind, goes_behind, InBody, SameFruit}
use Rattle.sre_turns.proofs.Terms.{is_inside, MarksAlike, Confined, MarklessRegions, AllMarked, MarksStay, AllConfined}
use Rattle.sre_turns.proofs.Terms.{open_spots, SameStops, Point, Region, Ahead, NotAhead, Further, Spot, Move, End}
use Rattle.sre_turns.proofs.Terms.{Split, Enter, closing_move, Choice, Else, Keep, Trying, Counted, Marks, EndsAt}
use Rattle.sre_turns.proofs.Terms.{CameToEnd, EachOpen}
use Rattle.sre_turns.proofs.bound.HereMoves.{InsideOnto, inside_moves}
use Rattle.sre_turns.specs.declared.Next.TheVariants as next
use Rattle.sre_turns.proofs.memoization.Bodies.{confined_stay}
use Rattle.sre_turns.proofs.semantics.FirstOutcomes.{fruit_waits}
use Rattle.sre_turns.proofs.memoization.SameComes.{marked_come}
use Rattle.sre_turns.proofs.bound.Faring.{place_ended, run_code, run_place}
use Rattle.sre_turns.proofs.semantics.Moving.{sooner, some_turns}
use Rattle.sre_turns.proofs.memoization.Trying.{alike_itself}

module _ (r : Run) (pl : Counted r) (start : ℕ) where
  -- an outcome of a region's body that was entered at a position
  abbrev StopsIn : Region → ℕ → Way → Type 0
  StopsIn g entered w = (goes_behind g ≡ true → entered ≤ w.stop) × (w.stop ≤ r.subject.end)

  abbrev AllStop : Region → ℕ → List Way → Type 0
  AllStop g entered os = AllByRecursion (λ (w : Way). StopsIn g entered w) os

  -- where the machine goes behind a region inside
  onto_behind : (g : Region) (entered : ℕ) (k : Region) (y : Spot) (now : List Way)
      → y.position ≤ r.subject.end
      → ((q : ℕ) (m : Marks) → y.position ≤ q → q ≤ r.subject.end
      → InBody r pl start g entered (spot_at (point_behind k) y.frames q m))
      → ((t : ℕ) (m : Marks) → k ≡ Further t
      → InBody r pl start g entered (spot_at (Instruction t) (drop 1 y.frames) y.position m))
      → AllStop k y.position now → InsideOnto r pl start g entered y.position (closing_move k y now)
  onto_behind g entered (Ahead t) y (w ∷ ws) inside on left all = on y.position w.marks (omega arith) inside
  onto_behind g entered (NotAhead t) y [] inside on left all = on y.position y.marks (omega arith) inside
  onto_behind g entered (NotAhead t) y (w ∷ ws) inside on left all = tt
  onto_behind g entered (Further t) y [] inside on left all = left t y.marks refl
  onto_behind g entered k y [] inside on left all = tt
  onto_behind g entered k y (w ∷ ws) inside on left all = on w.stop w.marks (all.0.0 refl) all.0.1

  mutual
    all_stop : (g : Region) (entered : ℕ) {x : Spot} {os : List Way} {n : ℕ} → (b : InBody r pl start g entered x)
        → Runs r.words r.subject x os n → AllStop g entered os
    all_stop g entered {x} b (turns mv h d) =
        stop_after g entered mv (inside_moves r pl start g entered x b mv h) d

    stop_after : (g : Region) (entered : ℕ) {x : Spot} (mv : Move)
        → InsideOnto r pl start g entered x.position mv → {os : List Way} {n : ℕ}
        → Comes r.words r.subject x mv os n → AllStop g entered os
    stop_after g entered Stop on stops = tt
    stop_after g entered End on ends = (on, tt)
    stop_after g entered (Go y) on (goes d) = all_stop g entered on d
    stop_after g entered (Split y z) on (splits {os₁ = os₁} {os₂ = os₂} d f) =
        each-append (λ (w : Way). StopsIn g entered w) os₁ os₂ (all_stop g entered on.0 d) (all_stop g entered on.1 f)
    stop_after g entered (Enter k y z) on (enters {now = now} lies d f) =
        stop_after g entered (closing_move k y now)
        (onto_behind g entered k y now on.0 on.1 on.2 (all_stop k y.position on.3 d)) f

  -- so where the first outcome stops the innermost region may end
  pub first_ends : (cs : List Choice) (x : Spot) (q : ℕ) (m : Marks) (os : List Way) {n : ℕ} → HereIn r pl start cs x
      → Runs r.words r.subject x os n → first os ≡ here q m → EndsIn r cs q
  first_ends [] x q m os h d e = tt
  first_ends (Else pt fs c k ∷ cs) x q m os h d e = first_ends cs x q m os h d e
  first_ends (Trying pt fs c k ∷ cs) x q m os h d e = first_ends cs x q m os h d e
  first_ends (Keep g fs c k ∷ cs) x q m [] h d e = absurd (cc)
  first_ends (Keep g fs c k ∷ cs) x q m (w ∷ os) h d e =
      let same : w ≡ record { stop = q; marks = m } = cc in
      subst (λ v. StopsIn g c.position v) same (all_stop g c.position h d).0

-- of outcomes with the same stops, the first stops where the first does of the others
first_stops : (q : ℕ) (m n : Marks) (os us : List Way) → SameStops os us → AllMarked n us → first os ≡ here q m
    → first us ≡ here q n
first_stops q m n [] us h a e = absurd (cc)
first_stops q m n (w ∷ os) [] h a e = absurd h
first_stops q m n (w ∷ os) (v ∷ us) h a e =
    let same : w ≡ record { stop = q; marks = m } = cc in
    let stop : w.stop ≡ q = ap (λ (x : Way). x.stop) same in
    rw (sym h.0 ∙ stop, a.0) refl

-- a configuration of which something came that begins with an end, under marks that are alike, where marks stay
pub ends_again : (r : Run) (q : ℕ) (l m : Marks) (x : Spot) → MarksStay r x → MarksAlike r.words m x.marks
    → CameToEnd r q l x → EndsAt r m x q
ends_again r q l m x stay one came = record {
  begins = λ y us k h other d.
      first_stops q l y.marks came.outcomes us
      (marked_come r.words r.subject m h one other came.runs d).0 (stay.same y us k h d) came.begins;
}

-- each instruction that is tried in the innermost atomic scope comes first to what the machine is to come to first
tried_first : (r : Run) (cs : List Choice) (q : ℕ) (m : Marks) (xs : List Way) {all : List Way} {u k : ℕ}
    → is_inside cs ≡ true → first xs ≡ here q m → Waits r cs u xs all k → EachOpen (CameToEnd r q m) cs
tried_first r [] q m xs inside h wt = tt
tried_first r (Else pt fs c l ∷ cs) q m xs inside h (otherwise {os = os} there placed d wt) =
    tried_first r cs q m (xs ++ os) inside (begun xs h) wt
  where
    begun : (xs : List Way) → first xs ≡ here q m → first (xs ++ os) ≡ here q m
    begun [] e = absurd (cc)
    begun (x ∷ xs) e = e
tried_first r (Keep g fs c l ∷ cs) q m xs inside h wt = tt
tried_first r (Trying pt fs c l ∷ cs) q m xs inside h (tried {n = n} {os = os} there placed d most same wt) =
    let here_ : SameFruit r true os xs = subst (λ b. SameFruit r b os xs) inside same in (
      record { outcomes = os; turns = n; runs = d; begins = here_ ∙ h },
      tried_first r cs q m xs inside h wt,
    )

-- and lies in that body, where no atomic scope of the words sets a capture slot
tried_confined : (ws : List ℕ) (cs : List Choice) → is_inside cs ≡ true → AllConfined ws cs → EachOpen (Confined ws) cs
tried_confined ws [] inside h = tt
tried_confined ws (Else pt fs c m ∷ cs) inside h = tried_confined ws cs inside h.1
tried_confined ws (Keep g fs c m ∷ cs) inside h = tt
tried_confined ws (Trying pt fs c m ∷ cs) inside h = (h.0 inside, tried_confined ws cs inside h.1)

-- where marks stay, those of the end are those of the configuration
end_marks : (r : Run) (q : ℕ) (l : Marks) (x : Spot) → MarksStay r x → CameToEnd r q l x → l ≡ x.marks
end_marks r q l x stay came =
    first_marks came.outcomes came.begins (stay.same x came.outcomes came.turns (alike_itself r.words x) came.runs)
  where
    first_marks : (os : List Way) → first os ≡ here q l → AllMarked x.marks os → l ≡ x.marks
    first_marks [] e h = absurd (cc)
    first_marks (w ∷ os) e h =
        let same : w ≡ record { stop = q; marks = l } = cc in sym (ap (λ (v : Way). v.marks) same) ∙ h.0

-- so there each ends at that cursor, and so does each configuration that is alike, under marks that are alike to the
-- backtrack stack's
pub tried_end : (r : Run) → MarklessRegions r.words → (m : Marks) (all : List Way) (limit : Limit) (c : StringCursor)
    (b : BoardValue) → MarksAlike r.words m b.marks → is_inside b.choices ≡ true → Ends r all limit c b
    → EachOpen (λ (x : Spot). EndsAt r m x c.position) b.choices
tried_end r none m all limit c b alike inside e =
    each-weaken (λ (x : Spot). CameToEnd r c.position b.marks x × Confined r.words x)
    (λ (x : Spot). EndsAt r m x c.position)
    (λ x h.
    let stay = confined_stay r x h.1 in
    ends_again r c.position b.marks m x stay
    (subst (λ l. MarksAlike r.words m l) (end_marks r c.position b.marks x stay h.0) alike) h.0)
    (open_spots b.choices)
    (each-both (CameToEnd r c.position b.marks) (Confined r.words) (open_spots b.choices)
    (tried_first r b.choices c.position b.marks (here c.position b.marks) inside refl e.waits)
    (tried_confined r.words b.choices inside (e.confined none).each))

-- of two steps at least, if anything comes of it
ended_turns : {ws : List ℕ} {s : Subject} {x : Spot} {os : List Way} {n : ℕ} (q : ℕ) (m : Marks)
    → first os ≡ here q m → Runs ws s x os n → 2 ≤ n
ended_turns {ws} {s} q m begins (turns mv h d) = go begins d
  where
    go : {x : Spot} {mv : Move} {os : List Way} {n : ℕ} → first os ≡ here q m → Comes ws s x mv os n → 2 ≤ n
    go e stops = absurd (cc)
    go e ends = omega arith
    go e (goes d) = omega (arith, some_turns d)
    go e (splits d f) = omega arith
    go e (enters {n₁ = n₁} {n₂ = n₂} lies d f) = omega (arith, some_turns d)

-- what is inside an atomic scope that is known to end at a cursor is left for that end at once
pub end_taken : (r : Run) (pt : Point) (c c' : StringCursor) (b : BoardValue) (m : Marks) → is_inside b.choices ≡ true
    → MarksAlike r.words m b.marks → r.stands c' c'.position
    → EndsAt r m (spot pt c b) c'.position
    → (all : List Way) (limit : Limit) → Arrives r all limit pt c b → Later r all limit (next.Done c') b
end_taken r pt c c' b m inside alike there known all limit g =
    let x : Spot = spot pt c b in
    let begins : first g.now ≡ here c'.position b.marks =
    known.begins x g.now g.turns (alike_itself r.words x) alike g.runs in
    let two : 2 ≤ g.turns = ended_turns c'.position b.marks begins g.runs in (
      omega (arith, two, g.within),
      record {
        later = g.later;
        stands = there;
        placed = g.placed;
        waits = sooner (g.turns + 1) 0 (omega arith)
            (fruit_waits r b.choices g.now (here c'.position b.marks)
            (subst (λ i. SameFruit r i g.now (here c'.position b.marks)) (sym inside) begins) g.waits);
        within = omega (arith, two, g.within);
        fares = λ pl.
            let code = run_code r x g.runs in
            let f = g.fares pl code.0 code.1 in
            record {
              at = first_ends r pl limit.start b.choices x c'.position b.marks g.now f.here g.runs begins;
              fares = place_ended r pl limit _ x b.choices (run_place r x g.runs) (omega arith) f inside;
            };
        confined = λ none. (g.confined none).others;
      },
    )
