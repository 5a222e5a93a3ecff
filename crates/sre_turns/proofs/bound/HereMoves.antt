-- In a search over bytecode whose steps are counted, each step leads to where the machine may be: it enters an atomic
-- scope at the body that the scope has, and continues after it where it may be, too.
-- That the step bound suffices (`enough` of sre_engine) rests on this.
use Rattle.sre_turns.proofs.Terms.{◌≡◌, ℕ, ◌+◌, ◌-◌, ◌≤◌, true, false, List, [], ◌∷◌, length, drop, refl, sym, subst}
use Rattle.sre_turns.proofs.Terms.{arith, ⊤, true≢false, Tree, Opcode, Reads, Marks, backs, forks, has_forked_region}
use Rattle.sre_turns.proofs.Terms.{least_from, Choice, Else, Keep, Trying, is_inside, HereIn, Reopens, EndsIn, Moves}
use Rattle.sre_turns.proofs.Terms.{Spot, Move, End, Split, Enter, repeats, LiesIn, AllBegunBy, ClosesAt, LeadsTo}
use Rattle.sre_turns.proofs.Terms.{Counted, SettledIn, point_behind, goes_behind, BodyOf, IsBodyIn, InBody, Point}
use Rattle.sre_turns.proofs.Terms.{Further, Region, first, LiesInBody, Run, spot_at, Stop, Go, Frame, Instruction}
use Rattle.sre_turns.proofs.Terms.{Passed}
use Rattle.sre_turns.specs.declared.Region.TheVariants.{AtomicGroup}
use Rattle.sre_chars.specs.declared.constants.SreOpcode.TheVariants as opcode
use Rattle.sre_turns.proofs.bound.NestedMoves.{begins, body_moves}
use Rattle.sre_turns.proofs.semantics.Onward.{outer_begun, Reaches, Reaching, point_reaches, all_later, least_position}
use Rattle.sre_turns.proofs.memoization.Straight.{StraightPoint, body_straight, GoesBack, counted_entry, point_entered}

-- what is told of where a step leads
abbrev pub OntoHere : (r : Run) → Counted r → ℕ → List Choice → Spot → Move → Type 0
OntoHere r pl start cs x Stop = ⊤
OntoHere r pl start cs x End = EndsIn r cs x.position
OntoHere r pl start cs x (Go y) = HereIn r pl start cs y
OntoHere r pl start cs x (Split y z) = HereIn r pl start cs y × HereIn r pl start cs z
OntoHere r pl start cs x (Enter g y z) =
    Reopens r pl start g y.frames y.position cs × InBody r pl start g y.position z

-- behind an atomic scope, under the loops under which it was entered, or where a possessive loop is left
pub closes_behind : (P : Point → List ℕ → Type 0) (g : Region) (fs : List Frame) → ClosesAt P g fs
    → P (point_behind g) (repeats fs)
closes_behind P (Further t) fs h = h.0
closes_behind P g fs h = h

closes_without : (P : Point → List ℕ → Type 0) (g : Region) (fs : List Frame) (t : ℕ) → g ≡ Further t → ClosesAt P g fs
    → P (Instruction t) (repeats (drop 1 fs))
closes_without P g fs t e h = (subst (λ k. ClosesAt P k fs) e h).1

-- nothing comes back from behind an atomic scope
behind_from : (g : Region) (q : ℕ) → least_from (point_behind g) q ≡ q
behind_from (AtomicGroup t) q = refl
behind_from g q = refl

-- what comes of words
module _ (r : Run) (x : Spot) (i j : ℕ) (t : Tree) (reads : Reads r.words i j t)
    (ends : Opcode r.words j opcode.SUCCESS)
    (lies : LiesIn r.words i j t reads [] x.point (repeats x.frames)) where
  abbrev Lying : Point → List ℕ → Type 0
  Lying pt ks = LiesIn r.words i j t reads [] pt ks

  leads : (mv : Move) → Moves r.words r.subject x mv → LeadsTo Lying mv
  leads mv h = body_moves r.words r.subject i j t reads ends x mv lies h

  behind_lies : (g : Region) (y z : Spot) → Moves r.words r.subject x (Enter g y z)
      → Lying (point_behind g) (repeats y.frames)
  behind_lies g y z h = closes_behind Lying g y.frames (leads (Enter g y z) h).1

  without_lies : (g : Region) (y z : Spot) (t : ℕ) → g ≡ Further t → Moves r.words r.subject x (Enter g y z)
      → Lying (Instruction t) (repeats (drop 1 y.frames))
  without_lies g y z t e h = closes_without Lying g y.frames t e (leads (Enter g y z) h).1

reaching : (r : Run) (x : Spot) (mv : Move) → Moves r.words r.subject x mv
    → Reaching r.subject x.position (least_from x.point x.position) x.frames mv
reaching r x mv h = point_reaches r.words r.subject x.frames x.position x.marks x.point mv h

-- the end of the words
abbrev last : Run → ℕ
last r = length r.words - 1

module _ (r : Run) (pl : Counted r) (start : ℕ) where
  -- an atomic scope is entered from a configuration in the words of the tree, in its range
  module _ (x : Spot) (lies : LiesIn r.words 0 (last r) pl.tree pl.whole.0 [] x.point (repeats x.frames))
      (inside : x.position ≤ r.subject.end) (g : Region) (y z : Spot)
      (h : Moves r.words r.subject x (Enter g y z)) where
    far : Reaching r.subject x.position (least_from x.point x.position) x.frames (Enter g y z)
    far = reaching r x (Enter g y z) h

    -- at its body
    in_body : (b : BodyOf r.words (IsBodyIn pl.tree)) → z.point ≡ Instruction b.start
        → start + backs b.tree ≤ z.position + backs pl.tree → InBody r pl start g y.position z
    in_body b first from = record {
      body = b;
      here = subst (λ fs. LiesInBody r.words b z.point (repeats fs)) (sym far.2)
          (subst (λ pt. LiesInBody r.words b pt []) (sym first) (begins r.words b.start b.end b.tree b.reads []));
      lies = (leads r x 0 (last r) pl.tree pl.whole.0 pl.whole.1 lies (Enter g y z) h).0;
      passed = subst (λ fs. Passed (record z { frames = fs })) (sym far.2) tt;
      inside = far.1 (far.0.inside inside);
      from = subst (λ pt. start + backs b.tree ≤ least_from pt z.position + backs pl.tree) (sym first) from;
      behind = far.3;
    }

    -- the same in the words of some tree, the whole or a body, whose lookbehinds go back no further than it may
    entered_counted : (i j : ℕ) (t : Tree) (reads : Reads r.words i j t) → Opcode r.words j opcode.SUCCESS
        → LiesIn r.words i j t reads [] x.point (repeats x.frames)
        → (has_forked_region t ≡ true → has_forked_region pl.tree ≡ true)
        → start + backs t ≤ least_from x.point x.position + backs pl.tree → InBody r pl start g y.position z
    entered_counted i j t reads ends here forked from =
        let at =
        point_entered r.words (IsBodyIn pl.tree) (GoesBack (backs t)) r.subject x.point x.frames x.position x.marks g
        y z (counted_entry pl.tree r.words i j t reads ends forked x.point (repeats x.frames) here) h in
        let near = least_position x.point x.position in
        in_body at.body at.first (omega (arith, from, near, at.far, at.is))

  -- where a step at a position leads, if spots of a kind are kept, and ends are such positions
  abbrev OntoKept : (Spot → Type 0) → (ℕ → Type 0) → ℕ → Move → Type 0
  OntoKept K E p Stop = ⊤
  OntoKept K E p End = E p
  OntoKept K E p (Go y) = K y
  OntoKept K E p (Split y z) = K y × K z
  OntoKept K E p (Enter k y z) =
      (y.position ≤ r.subject.end)
      × ((q : ℕ) (m : Marks) → y.position ≤ q → q ≤ r.subject.end → K (spot_at (point_behind k) y.frames q m))
      × ((t : ℕ) (m : Marks) → k ≡ Further t → K (spot_at (Instruction t) (drop 1 y.frames) y.position m))
      × InBody r pl start k y.position z

  -- with each spot of the kind each is that lies in the words wherever that does, and is within its reach
  record IsKept (K : Spot → Type 0) (E : ℕ → Type 0) : Type 0 where
    kept : (x y : Spot)
        → ((i j : ℕ) (t : Tree) (reads : Reads r.words i j t) → Opcode r.words j opcode.SUCCESS
        → LiesIn r.words i j t reads [] x.point (repeats x.frames)
        → LiesIn r.words i j t reads [] y.point (repeats y.frames))
        → Reaches r.subject x.position (least_from x.point x.position) x.frames y.position
        (least_from y.point y.position) y.frames
        → K x → K y
    inside : (x : Spot) → K x → x.position ≤ r.subject.end
    ends : (x : Spot) → K x → E x.position
    enters : (x : Spot) (g : Region) (y z : Spot) → K x → Moves r.words r.subject x (Enter g y z)
        → InBody r pl start g y.position z

  module _ (K : Spot → Type 0) (E : ℕ → Type 0) (k : IsKept K E) (x : Spot) (d : K x) where
    onto_kept : (mv : Move) → Moves r.words r.subject x mv → OntoKept K E x.position mv
    onto_kept Stop h = tt
    onto_kept End h = k.ends x d
    onto_kept (Go y) h =
        k.kept x y (λ i j t reads ends l. leads r x i j t reads ends l (Go y) h) (reaching r x (Go y) h) d
    onto_kept (Split y z) h =
        let far = reaching r x (Split y z) h in (
          k.kept x y (λ i j t reads ends l. (leads r x i j t reads ends l (Split y z) h).0) far.0 d,
          k.kept x z (λ i j t reads ends l. (leads r x i j t reads ends l (Split y z) h).1) far.1 d,
        )
    onto_kept (Enter g y z) h =
        let f = reaching r x (Enter g y z) h in (
          f.0.inside (k.inside x d),
          λ q m l e. k.kept x (spot_at (point_behind g) y.frames q m)
              (λ i j t reads ends lies. behind_lies r x i j t reads ends lies g y z h)
              (record {
                onward = let o = f.0.onward in omega (arith, o, l, behind_from g q);
                inside = λ _. e;
                begun = λ p. subst (λ n. AllBegunBy n y.frames) (sym (behind_from g q))
                    (all_later y.position q y.frames l (f.0.begun p));
              })
              d,
          λ t m e. k.kept x (spot_at (Instruction t) (drop 1 y.frames) y.position m)
              (λ i j u reads ends lies. without_lies r x i j u reads ends lies g y z t e h)
              (record {
                onward = let o = f.0.onward in omega (arith, o);
                inside = λ _. f.0.inside (k.inside x d);
                begun = λ p. outer_begun y.position y.frames (f.0.begun p);
              })
              d,
          k.enters x g y z d h,
        )

  -- where no atomic scope is in progress
  outside_kept : IsKept (SettledIn r pl start) (λ p. ⊤)
  outside_kept = record {
    kept = λ x y lies k d. record {
      lies = lies 0 (last r) pl.tree pl.whole.0 pl.whole.1 d.lies;
      passed = k.begun d.passed;
      inside = k.inside d.inside;
      from = let from = d.from in let o = k.onward in omega (arith, from, o);
    };
    inside = λ x d. d.inside;
    ends = λ x d. tt;
    enters = λ x g y z d h.
        let from = d.from in
        entered_counted x d.lies d.inside g y z h 0 (last r) pl.tree pl.whole.0 pl.whole.1 d.lies (λ e. e)
        (omega (arith, from));
  }

  -- in the body of an atomic scope
  abbrev StopsIn : Region → ℕ → ℕ → Type 0
  StopsIn g entered p = (goes_behind g ≡ true → entered ≤ p) × (p ≤ r.subject.end)

  body_kept : (g : Region) (entered : ℕ) → IsKept (InBody r pl start g entered) (StopsIn g entered)
  body_kept g entered = record {
    kept = λ x y lies k b. record {
      body = b.body;
      here = lies b.body.start b.body.end b.body.tree b.body.reads b.body.ends b.here;
      lies = lies 0 (last r) pl.tree pl.whole.0 pl.whole.1 b.lies;
      passed = k.begun b.passed;
      inside = k.inside b.inside;
      from = let l = b.from in omega (arith, l, k.onward);
      behind = λ e. let l = b.behind e in omega (arith, l, k.onward);
    };
    inside = λ x b. b.inside;
    ends = λ x b. (λ e. let l = b.behind e in omega (arith, l, least_position x.point x.position), b.inside);
    enters = λ x k y z b h.
        entered_counted x b.lies b.inside k y z h b.body.start b.body.end b.body.tree b.body.reads b.body.ends b.here
        b.body.is.1 b.from;
  }

  abbrev pub InsideOnto : Region → ℕ → ℕ → Move → Type 0
  InsideOnto g entered = OntoKept (InBody r pl start g entered) (StopsIn g entered)

  -- in the body of an atomic scope
  module _ (g : Region) (entered : ℕ) (x : Spot) (b : InBody r pl start g entered x) where
    pub inside_moves : (mv : Move) → Moves r.words r.subject x mv → InsideOnto g entered x.position mv
    inside_moves = onto_kept (InBody r pl start g entered) (StopsIn g entered) (body_kept g entered) x b

    -- it is settled, too, from as far before the start as lookbehinds go back
    pub body_settled : SettledIn r pl (start - backs pl.tree) x
    body_settled = record {
      lies = b.lies;
      passed = b.passed;
      inside = b.inside;
      from = let l = b.from in omega (arith, l);
    }

    -- where it forks, an atomic scope of the whole does
    pub forked_region : (StraightPoint r.words x.point → ⊥) → forks b.body.tree ≡ true
    forked_region forked = go (forks b.body.tree) refl
      where
        go : (told : _) → forks b.body.tree ≡ told → forks b.body.tree ≡ true
        go true e = e
        go false e = absurd (forked (body_straight r.words b.body e x.point (repeats x.frames) b.here))

  here_kept : (cs : List Choice) → IsKept (HereIn r pl start cs) (EndsIn r cs)
  here_kept [] = outside_kept
  here_kept (Else pt fs c k ∷ cs) = here_kept cs
  here_kept (Trying pt fs c k ∷ cs) = here_kept cs
  here_kept (Keep g fs c k ∷ cs) = body_kept g c.position

  -- where each step leads
  pub here_moves : (cs : List Choice) (x : Spot) (mv : Move) → HereIn r pl start cs x → Moves r.words r.subject x mv
      → OntoHere r pl start cs x mv
  here_moves cs x mv d h = go mv (onto_kept (HereIn r pl start cs) (EndsIn r cs) (here_kept cs) x d mv h)
    where
      go : (mv : Move) → OntoKept (HereIn r pl start cs) (EndsIn r cs) x.position mv → OntoHere r pl start cs x mv
      go Stop on = tt
      go End on = on
      go (Go y) on = on
      go (Split y z) on = on
      go (Enter g y z) on = (record { inside = on.0; behind = on.1; without = on.2 }, on.3)

  -- whether an atomic scope is in progress or not, it is settled from as far before the start as lookbehinds go back
  pub here_settled : (cs : List Choice) (x : Spot) → HereIn r pl start cs x → SettledIn r pl (start - backs pl.tree) x
  here_settled [] x h = record {
    lies = h.lies;
    passed = h.passed;
    inside = h.inside;
    from = let l = h.from in omega (arith, l);
  }
  here_settled (Else pt fs c m ∷ cs) x h = here_settled cs x h
  here_settled (Keep g fs c m ∷ cs) x h = body_settled g c.position x h
  here_settled (Trying pt fs c m ∷ cs) x h = here_settled cs x h

  -- where it forks in an atomic scope, an atomic scope of the tree does
  pub here_forked : (cs : List Choice) (x : Spot) → HereIn r pl start cs x → (StraightPoint r.words x.point → ⊥)
      → is_inside cs ≡ true → has_forked_region pl.tree ≡ true
  here_forked [] x h forked inside = absurd (true≢false (sym inside))
  here_forked (Else pt fs c m ∷ cs) x h forked inside = here_forked cs x h forked inside
  here_forked (Keep g fs c m ∷ cs) x h forked inside = h.body.is.0 (forked_region g c.position x h forked)
  here_forked (Trying pt fs c m ∷ cs) x h forked inside = here_forked cs x h forked inside

  -- where one configuration may stand another does that lies in the words wherever the first does, and is within its
  -- reach
  pub here_reached : (cs : List Choice) (x y : Spot)
      → ((i j : ℕ) (t : Tree) (reads : Reads r.words i j t)
      → LiesIn r.words i j t reads [] x.point (repeats x.frames)
      → LiesIn r.words i j t reads [] y.point (repeats y.frames))
      → Reaches r.subject x.position (least_from x.point x.position) x.frames y.position
      (least_from y.point y.position) y.frames
      → HereIn r pl start cs x → HereIn r pl start cs y
  here_reached cs x y lies k h = (here_kept cs).kept x y (λ i j t reads ends l. lies i j t reads l) k h

  -- an instruction to which a step leads, at another position within reach
  module _ (x z : Spot) (j p q : ℕ) (fs : List Frame) (m : Marks)
      (h : Moves r.words r.subject x (Split (spot_at (Instruction j) fs p m) z)) where
    abbrev there : ℕ → Spot
    there n = spot_at (Instruction j) fs n m

    pub here_first : (cs : List Choice)
        → Reaches r.subject x.position (least_from x.point x.position) x.frames q q fs
        → HereIn r pl start cs x → HereIn r pl start cs (there q)
    here_first cs k d =
        (here_kept cs).kept x (there q) (λ i j t reads ends l. (leads r x i j t reads ends l (Split (there p) z) h).0)
        k d
