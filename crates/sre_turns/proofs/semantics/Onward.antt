-- How far a step reaches: no further back than its configuration, not out of the range, and not before the last bodies
-- of its loops began. So its outcomes end no earlier than at the least position to which its point comes back: after an
-- atomic group and a body of a possessive loop no position is earlier than before it. Equivalence rests on that.
use Rattle.sre_turns.proofs.Terms.{◌≡◌, ℕ, ◌≤◌, true, List, [], ◌∷◌, drop, Option, Some, None, refl, subst, arith, ⊤}
use Rattle.sre_turns.proofs.Terms.{AllByRecursion, Marks, group, Way, first, Ahead, NotAhead, Further, Region, Point}
use Rattle.sre_turns.proofs.Terms.{Spot, Move, End, Split, Enter, closing_move, next_frame, MovesAt, Runs, turns, Comes}
use Rattle.sre_turns.proofs.Terms.{stops, ends, goes, splits, enters, least_from, goes_behind, AllBegunBy, each-append}
use Rattle.sre_turns.proofs.Terms.{each-weaken, Subject, Frame, Instruction, spot_at, Stop, Go, BegunBy}
use Rattle.sre_turns.proofs.semantics.OneTurn.{Turned, stopped, ended, went, forked, marked, grouped, begun, entered}
use Rattle.sre_turns.proofs.semantics.OneTurn.{looped, repeated, point_turned, until_holds, again_holds}

-- each of some ways ends no earlier than at a position
abbrev pub EndFrom : ℕ → List Way → Type 0
EndFrom p os = AllByRecursion (λ (w : Way). p ≤ w.stop) os

-- and each no later
abbrev pub EndWithin : ℕ → List Way → Type 0
EndWithin e os = AllByRecursion (λ (w : Way). w.stop ≤ e) os

begun_later : (p q : ℕ) (last : Option ℕ) → p ≤ q → BegunBy last p → BegunBy last q
begun_later p q None l h = tt
begun_later p q (Some last) l h = omega (arith, h)

pub all_later : (p q : ℕ) (fs : List Frame) → p ≤ q → AllBegunBy p fs → AllBegunBy q fs
all_later p q fs l h =
    each-weaken (λ (f : Frame). BegunBy f.last p) (λ (f : Frame). BegunBy f.last q)
    (λ (f : Frame) k. begun_later p q f.last l k) fs h

-- from a configuration at o that comes back to p, under the loops fs, a step leads to one at q that comes back to r,
-- under gs: no further back, in the range, and no earlier than where the last bodies of its loops began
pub record Reaches (s : Subject) (o p : ℕ) (fs : List Frame) (q r : ℕ) (gs : List Frame) : Type 0 where
  pub onward : p ≤ r
  pub inside : o ≤ s.end → q ≤ s.end
  pub begun : AllBegunBy p fs → AllBegunBy r gs

module _ (s : Subject) (o p : ℕ) (fs : List Frame) where
  abbrev pub Reached : Spot → Type 0
  Reached y = Reaches s o p fs y.position (least_from y.point y.position) y.frames

  -- what that says of each configuration of a step: of an atomic scope also where its body begins
  abbrev pub Reaching : Move → Type 0
  Reaching Stop = ⊤
  Reaching End = ⊤
  Reaching (Go y) = Reached y
  Reaching (Split y z) = Reached y × Reached z
  Reaching (Enter g y z) =
      Reaches s o p fs y.position y.position y.frames
      × (y.position ≤ s.end → z.position ≤ s.end) × (z.frames ≡ [])
      × (goes_behind g ≡ true → y.position ≤ least_from z.point z.position)

  -- under the same loops
  on : (q r : ℕ) → p ≤ r → (o ≤ s.end → q ≤ s.end) → Reaches s o p fs q r fs
  on q r l k = record { onward = l; inside = k; begun = λ b. all_later p r fs l b }

module _ (s : Subject) (p : ℕ) (fs : List Frame) where
  here : Reaches s p p fs p p fs
  here = on s p p fs p p (omega arith) (λ l. l)

  -- further bodies of a loop and what is behind it
  module _ (f : Frame) (outer : List Frame) (e : fs ≡ f ∷ outer) where
    inner : AllBegunBy p fs → AllBegunBy p (f ∷ outer)
    inner b = subst (λ l. AllBegunBy p l) e b

    owed : Reaches s p p fs p p (next_frame f f.last ∷ outer)
    owed = record { onward = omega arith; inside = λ l. l; begun = λ b. ((inner b).0, (inner b).1) }

    further : Reaches s p p fs p p (next_frame f (Some p) ∷ outer)
    further = record { onward = omega arith; inside = λ l. l; begun = λ b. (omega arith, (inner b).1) }

    out : Reaches s p p fs p p outer
    out = record { onward = omega arith; inside = λ l. l; begun = λ b. (inner b).1 }

-- a step at any point
turn_reaches : {ws : List ℕ} {s : Subject} {p : ℕ} {fs gs : List Frame} {m n : Marks} {pt : Point} {v w : Move}
    → Turned ws s p fs gs m n pt v w → Reaching s p (least_from pt p) fs v
turn_reaches stopped = tt
turn_reaches (ended o at e) = tt
turn_reaches {s = s} {p = p} {fs = fs} (went x) =
    on s p p fs x.position (least_from x.point x.position) x.onward x.inside
turn_reaches {s = s} {p = p} {fs = fs} (forked {pt = pt} {first = first} {rest = rest} {q = q} f a b inside) = (
  on s p (least_from pt p) fs q (least_from first q) a inside,
  on s p (least_from pt p) fs q (least_from rest q) b inside,
)
turn_reaches {s = s} {p = p} {fs = fs} (marked o at e there) = here s p fs
turn_reaches {m = m} (grouped {g = g} o at e asked there v w each) = turn_reaches (each (group m g))
turn_reaches {s = s} {p = p} (begun o at b same) =
    record { onward = omega (arith, same); inside = λ l. l; begun = λ b. (tt, all_later p _ _ (omega (arith, same)) b) }
turn_reaches {s = s} {p = p} {fs = fs} (entered o at b l k stays) =
    (here s p fs, λ e. omega (arith, l, e), refl, stays)
turn_reaches {s = s} {p = p} {fs = fs} (looped {u = u} o order at e h k) =
    let body = further s p fs h.frame h.outer h.inside in
    let end = out s p fs h.frame h.outer h.inside in
    until_holds (Reaching s p p fs) order u h (owed s p fs h.frame h.outer h.inside) (body, end) (end, body) end
turn_reaches {s = s} {p = p} {fs = fs} (repeated h k) =
    again_holds (Reaching s p p fs) h
    (owed s p fs h.frame h.outer h.inside, (λ l. l), refl, (λ g. omega arith))
    (further s p fs h.frame h.outer h.inside, (λ l. l), refl, (λ g. omega arith))
    (out s p fs h.frame h.outer h.inside)

pub point_reaches : (ws : List ℕ) (s : Subject) (fs : List Frame) (p : ℕ) (m : Marks) (pt : Point) (a : Move)
    → MovesAt ws s pt (spot_at pt fs p m) a → Reaching s p (least_from pt p) fs a
point_reaches ws s fs p m pt a h = turn_reaches (point_turned ws s p fs fs m m pt a a h h)

-- where the loops of a configuration began before, those without the innermost did
pub outer_begun : (p : ℕ) (fs : List Frame) → AllBegunBy p fs → AllBegunBy p (drop 1 fs)
outer_begun p [] h = tt
outer_begun p (f ∷ fs) h = h.1

-- what comes of an atomic scope goes on from where it was entered, or from where its body ends
module _ (s : Subject) (y : Spot) where
  closing_reaches : (g : Region) (now : List Way) → (goes_behind g ≡ true → EndFrom y.position now)
      → (y.position ≤ s.end → EndWithin s.end now)
      → Reaching s y.position y.position y.frames (closing_move g y now)
  closing_reaches (Ahead t) (w ∷ os) e k = here s y.position y.frames
  closing_reaches (NotAhead t) [] e k = here s y.position y.frames
  closing_reaches (NotAhead t) (w ∷ os) e k = tt
  closing_reaches (Further t) [] e k =
      record { onward = omega arith; inside = λ l. l; begun = outer_begun y.position y.frames }
  closing_reaches g [] e k = tt
  closing_reaches g (w ∷ os) e k = on s y.position y.position y.frames w.stop w.stop (e refl).0 (λ l. (k l).0)

pub least_position : (pt : Point) (p : ℕ) → least_from pt p ≤ p
least_position (Instruction i) p = omega arith
least_position pt p = omega arith

-- so the outcomes of a configuration end no earlier, and in the range
module _ (ws : List ℕ) (s : Subject) where
  abbrev EndThere : ℕ → ℕ → List Way → Type 0
  EndThere o p os = EndFrom p os × (o ≤ s.end → EndWithin s.end os)

  mutual
    outcomes_end : {x : Spot} {os : List Way} {n : ℕ} (p : ℕ) → p ≤ least_from x.point x.position
        → Runs ws s x os n → EndThere x.position p os
    outcomes_end {x} p l (turns a h d) =
        comes_end x.position p (least_from x.point x.position) x.frames l
        (omega (arith, l, least_position x.point x.position)) (λ k. k)
        (point_reaches ws s x.frames x.position x.marks x.point a h) d

    comes_end : {x : Spot} {a : Move} {os : List Way} {n : ℕ} (o p q : ℕ) (fs : List Frame) → p ≤ q → p ≤ x.position
        → (o ≤ s.end → x.position ≤ s.end) → Reaching s o q fs a → Comes ws s x a os n → EndThere o p os
    comes_end o p q fs l k inside h stops = (tt, λ w. tt)
    comes_end o p q fs l k inside h ends = ((k, tt), λ w. (inside w, tt))
    comes_end o p q fs l k inside h (goes d) =
        let e = outcomes_end p (omega (arith, l, h.onward)) d in
        (e.0, λ w. e.1 (h.inside w))
    comes_end o p q fs l k inside h (splits {os₁ = os₁} {os₂ = os₂} d e) =
        let first = outcomes_end p (omega (arith, l, h.0.onward)) d in
        let second = outcomes_end p (omega (arith, l, h.1.onward)) e in (
          each-append (λ (w : Way). p ≤ w.stop) os₁ os₂ first.0 second.0,
          λ w. each-append (λ (v : Way). v.stop ≤ s.end) os₁ os₂ (first.1 (h.0.inside w)) (second.1 (h.1.inside w)),
        )
    comes_end o p q fs l k inside h (enters {y = y} {g = g} {now = now} lies d e) =
        let closed : Reaching s y.position y.position y.frames (closing_move g y now) =
        closing_reaches s y g now (λ w. (outcomes_end y.position (h.3 w) d).0)
        (λ w. (outcomes_end 0 (omega arith) d).1 (h.1 w)) in
        let far : p ≤ y.position = omega (arith, l, h.0.onward) in
        let all = comes_end y.position p y.position y.frames far far (λ w. w) closed e in
        (all.0, λ w. all.1 (h.0.inside w))

  pub outcomes-onward : {x : Spot} {os : List Way} {n : ℕ} (p : ℕ) → p ≤ least_from x.point x.position
      → Runs ws s x os n → EndFrom p os
  outcomes-onward p l d = (outcomes_end p l d).0
