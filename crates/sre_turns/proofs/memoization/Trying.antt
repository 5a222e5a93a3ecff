-- An instruction or a possessive loop that is tried: a marker waits below all its outcomes, and where that marker is
-- reached again, it has failed, and always will.
use Rattle.sre_turns.proofs.Terms.{◌≡◌, ℕ, ◌≤◌, Bool, List, [], ◌∷◌, drop, ap, refl, sym, subst, arith, Limit, Stage}
use Rattle.sre_turns.proofs.Terms.{Going, Splitting, spare, FaresBack, BoardValue, Run, StringCursor, Runs, Waits}
use Rattle.sre_turns.proofs.Terms.{tried, GoesWith, Goes, Arrives, Tries, Backs, Later, spot, ChoicesConfined}
use Rattle.sre_turns.proofs.Terms.{is_inside, Alike, least_from, Hopeless, AcceptsByStop, MarksServe, Point, Spot}
use Rattle.sre_turns.proofs.Terms.{Trying, Counted, Marks, Way, Fruitless, attempt, with_tried, without_tried}
use Rattle.sre_turns.specs.declared.Next.TheVariants as next
use Rattle.sre_turns.proofs.semantics.FirstOutcomes.{first_none}
use Rattle.sre_turns.proofs.memoization.Hopeless.{hopeless_again, fruitless_waits, fruitless_none}
use Rattle.sre_turns.proofs.semantics.Moving.{standing, back_from}
use Rattle.sre_turns.proofs.memoization.AlikeTurns.{loops-alike}

module _ (r : Run) (pt : Point) (c : StringCursor) (b b' : BoardValue)
    (e : b' ≡ record b { choices = Trying pt b.frames c b.marks ∷ b.choices }) (all : List Way) (limit : Limit) where
  -- what is tried has its mark wait
  tried_with : (stage : Stage) → spare stage ≡ 0 → GoesWith stage r all limit pt c b
      → GoesWith stage r all (with_tried (attempt b.choices (spot pt c b)) limit) pt c b'
  tried_with stage none g =
      subst (λ x. GoesWith stage r all (with_tried (attempt b.choices (spot pt c b)) limit) pt c x) (sym e)
      (standing stage (tried g.stands g.placed g.runs (omega (arith, none)) refl g.waits) refl refl g.runs (omega arith)
      g.within g.stands g.placed
      (λ pl o w.
      let f = g.fares pl o w in
      record {
        here = f.here;
        fares = record {
          settled = (f.here, f.fares.settled);
          trying = ap (λ xs. attempt b.choices (spot pt c b) ∷ xs) f.fares.trying;
          left = omega (arith, f.fares.left);
        };
      })
      (λ none.
      let f = g.confined none in record { here = f.here; others = record { each = (f.here, f.others.each) } }))

  -- so it is where its step is under way
  pub trying_goes : Goes r all limit pt c b
      → Goes r all (with_tried (attempt b.choices (spot pt c b)) limit) pt c b'
  trying_goes = tried_with Going refl

  -- and where the credits for one split were granted
  pub trying_tries : Tries r all limit pt c b
      → Tries r all (with_tried (attempt b.choices (spot pt c b)) limit) pt c b'
  trying_tries = tried_with Splitting refl

-- what comes of a configuration, which is nothing
pub record CameToNothing (r : Run) (inside : Bool) (x : Spot) : Type 0 where
  pub outcomes : List Way
  pub turns : ℕ
  pub runs : Runs r.words r.subject x outcomes turns
  pub fruitless : Fruitless r inside outcomes

module _ (r : Run) (pt : Point) (c : StringCursor) (b b' : BoardValue)
    (e : b.choices ≡ Trying pt b'.frames c b'.marks ∷ b'.choices) (all : List Way) (limit : Limit)
    (g : Backs r all limit b) where
  marked : Waits r (Trying pt b'.frames c b'.marks ∷ b'.choices) 0 [] all g.later
  marked = subst (λ x. Waits r x 0 [] all g.later) e g.waits

  -- the mark is reached: what waited below it still waits
  pub tried_waits : Backs r all (without_tried limit) b'
  tried_waits = go marked g.within
    where
      left : (pl : Counted r) → FaresBack r pl (without_tried limit) b'.choices
      left pl =
          let f = subst (λ x. FaresBack r pl limit x) e (g.fares pl) in
          record {
            settled = f.settled.1;
            trying = ap (λ xs. drop 1 xs) f.trying;
            left = f.left;
          }

      go : {k : ℕ} → Waits r (Trying pt b'.frames c b'.marks ∷ b'.choices) 0 [] all k → k ≤ limit.turns
          → Backs r all (without_tried limit) b'
      go (tried {k = k} there placed d most same wt) l = record {
        later = k;
        waits = wt;
        within = l;
        fares = left;
        confined = λ none. record { each = (subst (λ x. ChoicesConfined r.words x) e (g.confined none)).each.1 };
      }

  -- what was tried came to nothing
  pub tried_came : CameToNothing r (is_inside b'.choices) (spot pt c b')
  tried_came = go marked
    where
      go : {k : ℕ} → Waits r (Trying pt b'.frames c b'.marks ∷ b'.choices) 0 [] all k
          → CameToNothing r (is_inside b'.choices) (spot pt c b')
      go (tried {n = n} {os = os} there placed d most same wt) =
          record {
            outcomes = os;
            turns = n;
            runs = d;
            fruitless = first_none _ _ same (fruitless_none r (is_inside b'.choices));
          }

-- so it is hopeless where marks serve that serve it
pub tried_hopeless : (r : Run) → AcceptsByStop r → (pt : Point) (c : StringCursor) (b b' : BoardValue) (m : Marks)
    → MarksServe r.words m (spot pt c b') → b.choices ≡ Trying pt b'.frames c b'.marks ∷ b'.choices
    → (all : List Way) (limit : Limit) → Backs r all limit b
    → Hopeless r (is_inside b'.choices) m (spot pt c b')
tried_hopeless r told pt c b b' m serves e all limit g =
    let d = tried_came r pt c b b' e all limit g in
    hopeless_again r told (is_inside b'.choices) m (spot pt c b') serves d.outcomes d.turns d.runs d.fruitless

-- a configuration is alike to itself
pub alike_itself : (ws : List ℕ) (x : Spot) → Alike ws x x
alike_itself ws x = record {
  point = refl;
  position = refl;
  loops = loops-alike ws (least_from x.point x.position) x.frames;
}

-- what is hopeless and come to is left at once
pub hopeless_left : (r : Run) (pt : Point) (c : StringCursor) (b : BoardValue) (m : Marks)
    → MarksServe r.words m (spot pt c b) → Hopeless r (is_inside b.choices) m (spot pt c b) → (all : List Way)
    (limit : Limit) → Arrives r all limit pt c b → Later r all limit next.Back b
hopeless_left r pt c b m serves hopeless all limit g =
    let x : Spot = spot pt c b in
    back_from r pt c b all limit g
    (fruitless_waits r b.choices g.now (hopeless.none x g.now g.turns (alike_itself r.words x) serves g.runs) g.waits)
