-- The cases of a loop: below the least count, and from it on.
use Rattle.sre_model.proofs.Terms.{◌≡◌, ℕ, zero, suc, ◌+◌, ◌-◌, ◌<◌, ◌≤◌, max, Bool, true, false, cond, List, [], ◌∷◌}
use Rattle.sre_model.proofs.Terms.{Option, Some, None, refl, sym, ap, ◌∙◌, arith, flat_map, nat_tests, Order, Greedy}
use Rattle.sre_model.proofs.Terms.{Lazy, Marks, Subject, Way, Body, here, within, ordered, may_repeat, more, least}
use Rattle.sre_model.proofs.Terms.{loop_ways, inl, inr, cases_lt, followed, loop_from, first, first_of_body}
use Rattle.sre_model.proofs.Each.{flat_map_each, each-first}
use Rattle.sre_model.proofs.Bounds.{Between, EachBetween, Bounded, within-each, within-all}

-- past the window's end nothing is followed
none-past : (s : Subject) (p : ℕ) (ws : List Way) → s.end < p → within s p ws ≡ []
none-past s p ws h = empty (within s p ws) (within-each s p ws)
  where
    empty : (vs : List Way) → EachBetween s p vs → vs ≡ []
    empty [] b = refl
    empty (v ∷ vs) b = absurd (omega (arith, b.0.0, b.0.1))

-- of a body whose ways lie between, all are followed
followed-all : (s : Subject) (body rest : Body) (p : ℕ) (m : Marks) → Bounded s body → p ≤ s.end
    → followed s body rest p m ≡ flat_map (λ w. rest w.stop w.marks) (body p m)
followed-all s body rest p m b h = ap (flat_map (λ w. rest w.stop w.marks)) (within-all s p (body p m) (b p m h))

-- what is followed is the same where what follows it is
followed-same : (s : Subject) (body f g : Body) (p : ℕ) (m : Marks)
    → ((w : Way) → Between s p w → f w.stop w.marks ≡ g w.stop w.marks) → followed s body f p m ≡ followed s body g p m
followed-same s body f g p m e =
    flat_map_each (Between s p) (λ w. f w.stop w.marks) (λ w. g w.stop w.marks) e (within s p (body p m))
    (within-each s p (body p m))

pub cond-same : {X : Type 0} (b : Bool) (x : X) → cond b x x ≡ x
cond-same true x = refl
cond-same false x = refl

-- where nothing further is tried the loop ends
pub alone : (o : Order) (p : ℕ) (m : Marks) → ordered o [] (here p m) ≡ here p m
alone Greedy p m = refl
alone Lazy p m = refl

-- a body that stayed is not tried again
pub stays : (high count p q : ℕ) → p ≡ q → may_repeat high count (Some p) q ≡ false
stays high count p q e = grind (arith, nat_tests)

module _ (s : Subject) (o : Order) (low high : ℕ) (body : Body) where
  -- the loop from its least count on, with fuel
  abbrev fuelled : ℕ → ℕ → Option ℕ → Body
  fuelled = more s o high body

  -- the loop after so many bodies, without
  abbrev loop : ℕ → Option ℕ → Body
  loop = loop_from s o low high body

  fuelled-past : (fuel count : ℕ) (last : Option ℕ) (p : ℕ) (m : Marks) → s.end < p
      → fuelled fuel count last p m ≡ here p m
  fuelled-past zero count last p m h = refl
  fuelled-past (suc fuel) count last p m h =
      rw (none-past s p (body p m) h) (rw (cond-same {X = List Way} (may_repeat high count last p) []) (alone o p m))

  fuelled-stays : (fuel count p q : ℕ) (m : Marks) → p ≡ q → fuelled fuel count (Some p) q m ≡ here q m
  fuelled-stays zero count p q m e = refl
  fuelled-stays (suc fuel) count p q m e = rw (stays high count p q e) (alone o q m)

  -- fuel that reaches past the window's end is enough
  fuelled-enough : (a b count : ℕ) (last : Option ℕ) (p : ℕ) (m : Marks) → s.end < p + a → s.end < p + b
      → fuelled a count last p m ≡ fuelled b count last p m
  fuelled-enough zero b count last p m h k = sym (fuelled-past b count last p m (omega arith))
  fuelled-enough (suc a) zero count last p m h k = fuelled-past (suc a) count last p m (omega arith)
  fuelled-enough (suc a) (suc b) count last p m h k =
      let each : (w : Way) → Between s p w
      → fuelled a (count + 1) (Some p) w.stop w.marks ≡ fuelled b (count + 1) (Some p) w.stop w.marks = λ w l.
      elim (cases_lt p w.stop) [
        | inl moved ↦ fuelled-enough a b (count + 1) (Some p) w.stop w.marks (omega arith) (omega arith)
        | inr stayed ↦
            fuelled-stays a (count + 1) p w.stop w.marks (omega (arith, l.0))
            ∙ sym (fuelled-stays b (count + 1) p w.stop w.marks (omega (arith, l.0)))
      ] in
      ap (λ l. ordered o (cond (may_repeat high count last p) l []) (here p m))
      (followed-same s body (fuelled a (count + 1) (Some p)) (fuelled b (count + 1) (Some p)) p m each)

  owed-none : (count : ℕ) (last : Option ℕ) (p : ℕ) (m : Marks) → low ≤ count
      → loop count last p m ≡ fuelled (s.end + 1 - p) count last p m
  owed-none count last p m h =
      let owed : low - count ≡ 0 = omega arith in
      let done : max low count ≡ count = omega arith in
      rw (owed, done)

  -- a loop's ways are those after no body
  pub loop-ways : (p : ℕ) (m : Marks) → loop_ways s o low high body p m ≡ loop 0 None p m
  loop-ways p m =
      let owed : low - 0 ≡ low = omega arith in
      let done : max low 0 ≡ low = omega arith in
      rw (owed, done)

  -- below the least count a body is always tried, and the loop goes on from each of its ways, where these lie between
  pub loop-below-all : Bounded s body → (count : ℕ) (last : Option ℕ) (p : ℕ) (m : Marks) → p ≤ s.end → count < low
      → loop count last p m ≡ flat_map (λ w. loop (count + 1) last w.stop w.marks) (body p m)
  loop-below-all b count last p m l h =
      let owed : low - count ≡ suc (low - (count + 1)) = omega arith in
      let done : max low count ≡ max low (count + 1) = omega arith in
      let below : loop count last p m ≡ followed s body (loop (count + 1) last) p m =
      ap (λ c. least s body (λ q k. more s o high body (s.end + 1 - q) c last q k) (low - count) p m) done ∙ rw owed in
      below ∙ followed-all s body (loop (count + 1) last) p m b l

  -- from it on the loop may end here; what follows a further body, where one may be tried,
  -- comes before that or after it
  pub loop-beyond-all : Bounded s body → (count : ℕ) (last : Option ℕ) (p : ℕ) (m : Marks) → p ≤ s.end → low ≤ count
      → loop count last p m ≡ ordered o (cond (may_repeat high count last p)
      (flat_map (λ w. loop (count + 1) (Some p) w.stop w.marks) (body p m)) []) (here p m)
  loop-beyond-all b count last p m l h =
      let fuel : ℕ = s.end + 1 - p in
      let each : (w : Way) → Between s p w
      → fuelled fuel (count + 1) (Some p) w.stop w.marks ≡ loop (count + 1) (Some p) w.stop w.marks = λ w l.
      fuelled-enough fuel (s.end + 1 - w.stop) (count + 1) (Some p) w.stop w.marks (omega arith) (omega arith)
      ∙ sym (owed-none (count + 1) (Some p) w.stop w.marks (omega arith)) in
      owed-none count last p m h
      ∙ fuelled-enough fuel (suc fuel) count last p m (omega arith) (omega arith)
      ∙ ap (λ l. ordered o (cond (may_repeat high count last p) l []) (here p m))
      (followed-same s body (fuelled fuel (count + 1) (Some p)) (loop (count + 1) (Some p)) p m each
      ∙ followed-all s body (loop (count + 1) (Some p)) p m b l)

-- of a body whose ways lie between, the first is the body's own
pub first_of_body-all : (s : Subject) (body : Body) (p : ℕ) (m : Marks) → Bounded s body → p ≤ s.end
    → first_of_body s body p m ≡ first (body p m)
first_of_body-all s body p m b h = ap (first {A = Way}) (within-all s p (body p m) (b p m h))

pub first-bounded : (s : Subject) (body : Body) → Bounded s (first_of_body s body)
first-bounded s body p m h = each-first (Between s p) (within s p (body p m)) (within-each s p (body p m))
