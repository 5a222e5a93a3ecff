-- Steps that take the newest saved alternative.
use Rattle.sre_turns.proofs.Terms.{◌≡◌, ℕ, ◌≤◌, List, [], ◌∷◌, refl, sym, ap, ◌∙◌, subst, arith, Else, Keep, choice}
use Rattle.sre_turns.proofs.Terms.{Limit, earlier, Wider, FaresBack, Coming, Instruction, Run, StringCursor, spot}
use Rattle.sre_turns.proofs.Terms.{Waits, outermost, otherwise, Goes, Arrives, Backs, Stands, Later, without_outcome}
use Rattle.sre_turns.proofs.Terms.{without_loop, HasRun, ChoicesConfined, Next, BoardValue, Point, Again, Inside}
use Rattle.sre_turns.proofs.Terms.{Region, Way, IsBack}
use Rattle.sre_turns.specs.declared.Next.TheVariants as next
use Rattle.sre_turns.proofs.semantics.FirstOutcomes.{first_none}
use Rattle.sre_turns.proofs.semantics.Moving.{arrived, standing}
use Rattle.sre_turns.proofs.semantics.StepsInRegions.{region_back}
use Rattle.sre_turns.proofs.bound.Faring.{FreeOfToll, choice_taken, fares_wider, fares_at_wider}
use Rattle.sre_turns.proofs.semantics.AfterSteps.{has_run}

-- a choice is resumed
pub back_none : (r : Run) (b : BoardValue) → b.choices ≡ [] → (all : List Way) (limit : Limit)
    → Backs r all limit b → all ≡ []
back_none r b e all limit g = go (subst (λ x. Waits r x 0 [] all g.later) e g.waits)
  where
    go : {xs : List Way} {k : ℕ} → Waits r [] 0 [] xs k → xs ≡ []
    go {xs} (outermost begins) = first_none xs [] begins refl

pub back_goes : (r : Run) (b b' : BoardValue) (pt : Point) (c : StringCursor)
    → b.choices ≡ Else pt b'.frames c b'.marks ∷ b'.choices → (all : List Way) (limit : Limit) → Backs r all limit b
    → (1 ≤ limit.turns) × Arrives r all (earlier limit) pt c b'
back_goes r b b' pt c e all limit g = go (subst (λ x. Waits r x 0 [] all g.later) e g.waits) g.within
  where
    go : {xs : List Way} {k : ℕ} → Waits r (Else pt b'.frames c b'.marks ∷ b'.choices) 0 [] xs k → k ≤ limit.turns
        → (1 ≤ limit.turns) × Arrives r xs (earlier limit) pt c b'
    go (otherwise {n = n} there placed x wt) l = (
      omega arith,
      standing Coming wt refl refl x (omega arith) (omega arith) there placed
          (λ pl o w.
          choice_taken r pl limit pt b'.frames c b'.marks b'.choices
          (subst (λ x. FaresBack r pl limit x) e (g.fares pl)))
          (λ none.
          let f = subst (λ x. ChoicesConfined r.words x) e (g.confined none) in
          record { here = f.each.0; others = record { each = f.each.1 } }),
    )

-- the same for a point that is known
module _ (r : Run) (b b' : BoardValue) (pt pt' : Point) (c : StringCursor)
    (e : b.choices ≡ choice pt b'.frames c b'.marks ∷ b'.choices) (same : pt ≡ pt')
    (is : choice pt' b'.frames c b'.marks ≡ Else pt' b'.frames c b'.marks) where
  pub back_arrives : (all : List Way) (limit : Limit) → Backs r all limit b
      → (1 ≤ limit.turns) × Arrives r all (earlier limit) pt' c b'
  back_arrives =
      let found : b.choices ≡ choice pt' b'.frames c b'.marks ∷ b'.choices = e ∙ rw same refl in
      back_goes r b b' pt' c (found ∙ ap (λ x. x ∷ b'.choices) is)

  -- the same where the turn goes on
  pub back_at : FreeOfToll pt' → (all : List Way) (limit : Limit) → Backs r all limit b
      → (1 ≤ limit.turns) × Goes r all (earlier limit) pt' c b'
  back_at free all limit g = let s = back_arrives all limit g in (s.0, arrived free s.1)

  -- so the machine is at that point, wherever it was
  pub back_run : IsBack r b → HasRun r pt' c
  back_run x = let g = (back_arrives x.all x.limit x.backs).1 in has_run r pt' c g.stands g.runs

-- a region whose body has no outcome
pub back_region : (r : Run) (b b' b'' : BoardValue) (pt : Point) (g : Region) (c : StringCursor) (n : Next)
    → b.choices ≡ choice pt b'.frames c b'.marks ∷ b'.choices → pt ≡ Inside g → n ≡ without_outcome g c
    → b'' ≡ without_loop g b' → (all : List Way) (limit : Limit) → Backs r all limit b → Later r all limit n b''
back_region r b b' b'' pt g c n e same is left all limit k =
    let found : b.choices ≡ Keep g b'.frames c b'.marks ∷ b'.choices = e ∙ rw same refl in
    let kept : Waits r (Keep g b'.frames c b'.marks ∷ b'.choices) 0 [] all k.later =
    subst (λ x. Waits r x 0 [] all k.later) found k.waits in
    let back : Later r all limit (without_outcome g c) (without_loop g b') =
    region_back r c b' g (λ none. (subst (λ x. ChoicesConfined r.words x) found (k.confined none)).each) all limit
    k.later (λ pl. subst (λ x. FaresBack r pl limit x) found (k.fares pl)) kept k.within in
    subst (λ x. Later r all limit x b'') (sym is)
    (subst (λ y. Later r all limit (without_outcome g c) y) (sym left) back)

-- what is come to within a limit is come to within a wider one
arrives_wider : (r : Run) (all : List Way) (limit more : Limit) (pt : Point) (c : StringCursor) (b : BoardValue)
    → Wider limit more → Arrives r all limit pt c b → Arrives r all more pt c b
arrives_wider r all limit more pt c b l g =
    standing Coming g.waits refl refl g.runs (omega arith) (omega (arith, g.within, l.turns)) g.stands g.placed
    (λ pl o w. fares_at_wider r pl limit more _ (spot pt c b) b.choices l (g.fares pl o w)) g.confined

-- a state within a limit is one within a wider limit
pub stands_wider : (r : Run) (all : List Way) (limit more : Limit) (n : Next) (b : BoardValue) → Wider limit more
    → Stands r all limit n b → Stands r all more n b
stands_wider r all limit more (next.At i c) b l g = arrives_wider r all limit more (Instruction i) c b l g
stands_wider r all limit more (next.Again c) b l g = arrives_wider r all limit more Again c b l g
stands_wider r all limit more next.Back b l g = record {
  later = g.later;
  waits = g.waits;
  within = omega (arith, g.within, l.turns);
  fares = λ pl. fares_wider r pl limit more _ b.choices l (g.fares pl);
  confined = g.confined;
}
stands_wider r all limit more (next.Done c) b l g = record {
  later = g.later;
  stands = g.stands;
  placed = g.placed;
  waits = g.waits;
  within = omega (arith, g.within, l.turns);
  fares = λ pl.
      let f = g.fares pl in record { at = f.at; fares = fares_wider r pl limit more _ b.choices l f.fares };
  confined = g.confined;
}

pub earlier_wider : (limit : Limit) → Wider (earlier limit) limit
earlier_wider limit = record {
  turns = omega arith;
  taken = omega arith;
  granted = omega arith;
  tolls = refl;
  trying = refl;
  start = refl;
}

-- two turns are more than one
pub later_again : (r : Run) (all : List Way) (limit : Limit) (n : Next) (b : BoardValue) → 1 ≤ limit.turns
    → Later r all (earlier limit) n b → Later r all limit n b
later_again r all limit n b l k =
    (l, stands_wider r all (earlier (earlier limit)) (earlier limit) n b (earlier_wider (earlier limit)) k.1)
