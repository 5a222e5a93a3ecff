-- A law of the specification's combinators: match paths stay along a relation between positions, and stop at the same
-- positions under equivalent captures, if those of the bodies do.
use Rattle.sre_model.proofs.Terms.{◌≡◌, ℕ, zero, suc, ◌+◌, ◌-◌, ◌<◌, ◌≤◌, max, Bool, true, false, cond, ◌&&◌, nat_le}
use Rattle.sre_model.proofs.Terms.{nat_lt, List, [], ◌∷◌, ◌++◌, Option, Some, None, map, refl, subst, arith, flat_map}
use Rattle.sre_model.proofs.Terms.{AllByRecursion, and_parts, nat_tests, Order, Greedy, Lazy, RunKind, GreedyRun}
use Rattle.sre_model.proofs.Terms.{LazyRun, PossessiveRun, Sign, Positive, Negative, Test, Fold, Marks, group, Subject}
use Rattle.sre_model.proofs.Terms.{passes, Way, Body, first, here, unlimited, run_length, most_from, longest_run}
use Rattle.sre_model.proofs.Terms.{rising, falling, counts, run_ways, within, ordered, may_repeat, more, least}
use Rattle.sre_model.proofs.Terms.{loop_ways, leb-true, same_folded, possessive_more, possessive_ways, look_ways}
use Rattle.sre_model.proofs.Terms.{reference_ways, or_here}
use Rattle.sre_model.proofs.Each.{each-cond}

-- n rounds of R lead from i to j
abbrev pub Times : (ℕ → ℕ → Type 0) → ℕ → ℕ → ℕ → Type 0
Times R zero i j = j ≡ i
Times R (suc n) i j = (l : ℕ) × R i l × Times R n l j

-- at least as many rounds as are owed, after so many, and no more than the greatest count lets
abbrev pub Counted : (ℕ → ℕ → Type 0) → ℕ → ℕ → ℕ → ℕ → ℕ → Type 0
Counted R high count owed p q =
    (n : ℕ) × (owed ≤ n) × (high < unlimited → count + n ≤ max (count + owed) high) × Times R n p q

no_round : (R : ℕ → ℕ → Type 0) (high count p : ℕ) → Counted R high count 0 p p
no_round R high count p = (0, omega arith, (λ _. omega arith), refl)

one_more : (R : ℕ → ℕ → Type 0) (high count owed after p l q : ℕ) → owed ≤ suc after
    → (high < unlimited → max (count + 1 + after) high ≤ max (count + owed) high) → R p l
    → Counted R high (count + 1) after l q → Counted R high count owed p q
one_more R high count owed after p l q few below r t =
    (suc t.0, omega (arith, few, t.1), (λ u. omega (arith, t.2 u, below u)), (l, r, t.3))

repeats-below : (high count : ℕ) (last : Option ℕ) (p : ℕ) → may_repeat high count last p ≡ true → high < unlimited
    → max (count + 1 + 0) high ≤ max (count + 0) high
repeats-below high count None p e u = let below : count < high = grind (arith, nat_tests) in omega (arith, below)
repeats-below high count (Some q) p e u = let below : count < high = grind (arith, nat_tests) in omega (arith, below)

-- c is one of a run's counts, where k is the longest
abbrev pub IsCount : RunKind → ℕ → ℕ → ℕ → Type 0
IsCount kind low k c = (low ≤ c) × (c ≤ k) × (kind ≡ PossessiveRun → c ≡ k)

module _ (P : ℕ → Type 0) where
  falling_each : (low n : ℕ) → ((c : ℕ) → low ≤ c → c < low + n → P c) → AllByRecursion P (falling low n)
  falling_each low zero h = tt
  falling_each low (suc n) h =
      (h (low + n) (omega arith) (omega arith), falling_each low n (λ c l k. h c l (omega arith)))

  rising_each : (low n : ℕ) → ((c : ℕ) → low ≤ c → c < low + n → P c) → AllByRecursion P (rising low n)
  rising_each low zero h = tt
  rising_each low (suc n) h =
      (h low (omega arith) (omega arith), rising_each (low + 1) n (λ c l k. h c (omega arith) (omega arith)))

  -- what holds of each of a run's counts holds of their list
  pub counts_each : (kind : RunKind) (low k : ℕ) → ((c : ℕ) → IsCount kind low k c → P c)
      → AllByRecursion P (counts kind low k)
  counts_each GreedyRun low k h = falling_each low (k + 1 - low) (λ c l n. h c (l, omega arith, λ e. absurd (cc)))
  counts_each LazyRun low k h = rising_each low (k + 1 - low) (λ c l n. h c (l, omega arith, λ e. absurd (cc)))
  counts_each PossessiveRun low k h =
      each-cond P (nat_le low k) (k ∷ []) []
      (λ y. (h k (grind (arith, nat_tests), omega arith, λ _. refl), tt)) (λ _. tt)

module _ (M : Marks → Marks → Type 0) where
  -- each way stops where the other's does, at a position that R holds of, with equivalent captures
  pub data Alike (R : ℕ → Type 0) : List Way → List Way → Type 0 where
    none : Alike R [] []
    pair : {q : ℕ} {k l : Marks} {xs ys : List Way} → R q → M k l → Alike R xs ys
        → Alike R (record { stop = q; marks = k } ∷ xs) (record { stop = q; marks = l } ∷ ys)

  -- what R says of each stop holds of each way
  pub each_way : {R : ℕ → Type 0} {xs ys : List Way} (P : Way → Type 0) → ((w : Way) → R w.stop → P w) → Alike R xs ys
      → AllByRecursion P xs
  each_way P f none = tt
  each_way P f (pair {q = q} {k = k} r e a) = (f (record { stop = q; marks = k }) r, each_way P f a)

  -- what follows from R says it of the same ways
  pub weaken : {R Q : ℕ → Type 0} {xs ys : List Way} → ((q : ℕ) → R q → Q q) → Alike R xs ys → Alike Q xs ys
  weaken f none = none
  weaken f (pair {q = q} r e a) = pair (f q r) e (weaken f a)

  append : {R : ℕ → Type 0} {xs ys us vs : List Way} → Alike R xs ys → Alike R us vs → Alike R (xs ++ us) (ys ++ vs)
  append none b = b
  append (pair r e a) b = pair r e (append a b)

  -- the list that a test picks
  pub by_cond : {R : ℕ → Type 0} {xs ys us vs : List Way} (b : Bool) → (b ≡ true → Alike R xs ys)
      → (b ≡ false → Alike R us vs) → Alike R (cond b xs us) (cond b ys vs)
  by_cond true f g = f refl
  by_cond false f g = g refl

  -- the first way of each list alone
  pub by_first : {R : ℕ → Type 0} {xs ys : List Way} → Alike R xs ys → Alike R (first xs) (first ys)
  by_first none = none
  by_first (pair r e a) = pair r e none

  by_each : {R Q : ℕ → Type 0} {xs ys : List Way} (body : Body)
      → ((q : ℕ) (k l : Marks) → R q → M k l → Alike Q (body q k) (body q l)) → Alike R xs ys
      → Alike Q (flat_map (λ w. body w.stop w.marks) xs) (flat_map (λ w. body w.stop w.marks) ys)
  by_each body f none = none
  by_each body f (pair {q = q} {k = k} {l = l} r e a) = append (f q k l r e) (by_each body f a)

  by_order : {R : ℕ → Type 0} {xs ys us vs : List Way} (o : Order) → Alike R xs ys → Alike R us vs
      → Alike R (ordered o xs us) (ordered o ys vs)
  by_order Greedy a b = append a b
  by_order Lazy a b = append b a

  -- from equivalent captures a body's ways go along R
  abbrev pub Goes : (ℕ → ℕ → Type 0) → Body → Type 0
  Goes R body = (p : ℕ) (m n : Marks) → M m n → Alike (R p) (body p m) (body p n)

  -- one body after another
  pub goes-then : {R Q S : ℕ → ℕ → Type 0} (a b : Body) → ((p l q : ℕ) → R p l → Q l q → S p q) → Goes R a → Goes Q b
      → Goes S (λ p m. flat_map (λ w. b w.stop w.marks) (a p m))
  goes-then a b join f g p m n e = by_each b (λ l j k r d. weaken (λ q. join p l q r) (g l j k d)) (f p m n e)

  -- two bodies of which one is tried first
  pub goes-or : {R : ℕ → ℕ → Type 0} (a b : Body) → Goes R a → Goes R b → Goes R (λ p m. a p m ++ b p m)
  goes-or a b f g p m n e = append (f p m n e) (g p m n e)

  -- a part that depends on whether a group is present
  pub goes-present : {R : ℕ → ℕ → Type 0} (g : ℕ) (there absent : Body)
      → ((m n : Marks) → M m n → group m g ≡ group n g)
      → Goes R there → Goes R absent
      → Goes R (λ p m. elim (group m g) [ None ↦ absent p m | (Some _) ↦ there p m ])
  goes-present {R = R} g there absent same f h p m n e =
      rw (same m n e) (by_group (group n g))
    where
      by_group : (o : Option (ℕ × ℕ)) → Alike (R p) (elim o [ None ↦ absent p m | (Some _) ↦ there p m ])
          (elim o [ None ↦ absent p n | (Some _) ↦ there p n ])
      by_group None = h p m n e
      by_group (Some _) = f p m n e

  -- a look, which goes nowhere
  pub goes-look : (R : ℕ → ℕ → Type 0) {Q : ℕ → ℕ → Type 0} → ((p : ℕ) → R p p) → (sign : Sign) (back : ℕ)
      (body : Body) → Goes Q body
      → Goes R (look_ways sign back body)
  goes-look R {Q = Q} r Positive back body g p m n e =
      by_cond (nat_lt p back) (λ _. none) (λ _. kept (g (p - back) m n e))
    where
      kept : {xs ys : List Way} → Alike (Q (p - back)) xs ys
          → Alike (R p) (map (λ w. record { stop = p; marks = w.marks }) (first xs))
          (map (λ w. record { stop = p; marks = w.marks }) (first ys))
      kept none = none
      kept (pair x d a) = pair (r p) d none
  goes-look R {Q = Q} r Negative back body g p m n e =
      by_cond (nat_lt p back) (λ _. pair (r p) e none) (λ _. unless (g (p - back) m n e))
    where
      unless : {xs ys : List Way} → Alike (Q (p - back)) xs ys
          → Alike (R p) (elim xs [ [] ↦ here p m | (w ∷ _) ↦ [] ]) (elim ys [ [] ↦ here p n | (w ∷ _) ↦ [] ])
      unless none = pair (r p) e none
      unless (pair x d a) = none

  module _ (s : Subject) where
    by_window : {R : ℕ → Type 0} {xs ys : List Way} (p : ℕ) → Alike R xs ys → Alike R (within s p xs) (within s p ys)
    by_window p none = none
    by_window p (pair {q = q} r e a) =
        by_cond (nat_le p q && nat_le q s.end) (λ _. pair r e (by_window p a)) (λ _. by_window p a)

    module _ {R : ℕ → ℕ → Type 0} (high : ℕ) (body : Body) (g : Goes R body) where
      -- a loop from its least count on
      goes-more : (o : Order) (fuel count : ℕ) (last : Option ℕ)
          → Goes (Counted R high count 0) (more s o high body fuel count last)
      goes-more o zero count last p m n e = pair (no_round R high count p) e none
      goes-more o (suc fuel) count last p m n e =
          by_order o
          (by_cond (may_repeat high count last p)
          (λ y. by_each (more s o high body fuel (count + 1) (Some p))
          (λ l j k r d. weaken
          (λ q. one_more R high count 0 0 p l q (omega arith) (repeats-below high count last p y) r)
          (goes-more o fuel (count + 1) (Some p) l j k d))
          (by_window p (g p m n e)))
          (λ _. none))
          (pair (no_round R high count p) e none)

      -- a possessive loop from its least count on
      goes-possessive_more : (fuel count : ℕ) (last : Option ℕ)
          → Goes (Counted R high count 0) (possessive_more s high body fuel count last)
      goes-possessive_more zero count last p m n e = pair (no_round R high count p) e none
      goes-possessive_more (suc fuel) count last p m n e =
          on (may_repeat high count last p) refl (by_first (by_window p (g p m n e)))
          (goes-possessive_more fuel (count + 1) (Some p))
        where
          again : Body
          again = possessive_more s high body fuel (count + 1) (Some p)

          on : (b : Bool) → may_repeat high count last p ≡ b → {xs ys : List Way} → Alike (R p) xs ys
              → Goes (Counted R high (count + 1) 0) again
              → Alike (Counted R high count 0 p) (or_here again p m (cond b xs [])) (or_here again p n (cond b ys []))
          on false y a f = pair (no_round R high count p) e none
          on true y none f = pair (no_round R high count p) e none
          on true y (pair {q = l} {k = j} {l = k} r d a) f =
              weaken (λ q. one_more R high count 0 0 p l q (omega arith) (repeats-below high count last p y) r)
              (f l j k d)

    -- the bodies that are owed, and then the rest
    goes-least : {R : ℕ → ℕ → Type 0} (high low : ℕ) (body rest : Body) → Goes R body → Goes (Counted R high low 0) rest
        → (count owed : ℕ) → count + owed ≡ low → Goes (Counted R high count owed) (least s body rest owed)
    goes-least high low body rest f g count zero is p m n e =
        weaken (λ q t. (t.0, t.1, (λ u. omega (arith, is, t.2 u)), t.3)) (g p m n e)
    goes-least {R = R} high low body rest f g count (suc owed) is p m n e =
        by_each (least s body rest owed)
        (λ l j k r d. weaken
        (λ q. one_more R high count (suc owed) owed p l q (omega arith) (λ _. omega arith) r)
        (goes-least high low body rest f g (count + 1) owed (omega (arith, is)) l j k d))
        (by_window p (f p m n e))

    -- a loop
    pub goes-loop : {R : ℕ → ℕ → Type 0} (o : Order) (low high : ℕ) (body : Body) → Goes R body
        → Goes (Counted R high 0 low) (loop_ways s o low high body)
    goes-loop o low high body g =
        goes-least high low body (λ p m. more s o high body (s.end + 1 - p) low None p m) g
        (λ p. goes-more high body g o (s.end + 1 - p) low None p) 0 low (omega arith)

    -- a possessive loop
    pub goes-possessive : {R : ℕ → ℕ → Type 0} (low high : ℕ) (body : Body) → Goes R body
        → Goes (Counted R high 0 low) (possessive_ways s low high body)
    goes-possessive low high body g =
        goes-least high low (λ p m. first (within s p (body p m)))
        (λ p m. possessive_more s high body (s.end + 1 - p) low None p m)
        (λ p m n e. by_first (by_window p (g p m n e)))
        (λ p. goes-possessive_more high body g (s.end + 1 - p) low None p) 0 low (omega arith)

    -- the characters of a run, each of them a round
    pub run_rounds : (R : ℕ → ℕ → Type 0) (t : Test) → ((p : ℕ) → passes s t p ≡ true → R p (p + 1)) → (n p c : ℕ)
        → c ≤ run_length s t n p → (c ≤ n) × Times R c p (p + c)
    run_rounds R t step n p zero l = (omega arith, omega arith)
    run_rounds R t step zero p (suc c) l = absurd (omega arith)
    run_rounds R t step (suc n) p (suc c) l =
        let y : passes s t p ≡ true = grind arith in
        let x = run_rounds R t step n (p + 1) c (grind arith) in
        let same : p + 1 + c ≡ p + suc c = omega arith in
        (omega (arith, x.0), (p + 1, step p y, subst (Times R c (p + 1)) same x.1))

    most : (high p : ℕ) → high < unlimited → most_from s high p ≤ high
    most high p u = grind (arith, nat_tests)

    -- a run
    pub goes-run : {R : ℕ → ℕ → Type 0} (kind : RunKind) (low high : ℕ) (t : Test)
        → ((p : ℕ) → passes s t p ≡ true → R p (p + 1)) → Goes (Counted R high 0 low) (run_ways s kind low high t)
    goes-run {R = R} kind low high t step p m n e =
        shown (counts kind low (longest_run s t high p)) (counts_each Ends kind low (longest_run s t high p) counted)
      where
        Ends : ℕ → Type 0
        Ends c = Counted R high 0 low p (p + c)

        counted : (c : ℕ) → IsCount kind low (longest_run s t high p) c → Ends c
        counted c i =
            let x = run_rounds R t step (most_from s high p) p c i.1 in
            (c, i.0, (λ u. omega (arith, x.0, most high p u)), x.1)

        shown : (cs : List ℕ) → AllByRecursion Ends cs → Alike (Counted R high 0 low p)
            (map (λ c. record { stop = p + c; marks = m }) cs) (map (λ c. record { stop = p + c; marks = n }) cs)
        shown [] h = none
        shown (c ∷ cs) h = pair h.0 e (shown cs h.1)

    -- a reference, over any characters of the range
    pub goes-reference : (R : ℕ → ℕ → Type 0) (f : Fold) (g : ℕ) → ((m n : Marks) → M m n → group m g ≡ group n g)
        → ((p n : ℕ) → p + n ≤ s.end → R p (p + n)) → Goes R (reference_ways s f g)
    goes-reference R f g same over p m n e =
        subst (λ o. Alike (R p) (spanned m (group m g)) (spanned n o)) (same m n e) (by_group (group m g))
      where
        spanned : Marks → Option (ℕ × ℕ) → List Way
        spanned k o = elim o [
          | None ↦ []
          | (Some span) ↦
              cond (nat_le (p + (span.1 - span.0)) s.end && same_folded s f (span.1 - span.0) span.0 p)
              (here (p + (span.1 - span.0)) k) []
        ]

        by_group : (o : Option (ℕ × ℕ)) → Alike (R p) (spanned m o) (spanned n o)
        by_group None = none
        by_group (Some span) =
            let c : ℕ = span.1 - span.0 in
            by_cond (nat_le (p + c) s.end && same_folded s f c span.0 p)
            (λ y. let both = and_parts (nat_le (p + c) s.end) (same_folded s f c span.0 p) y in
            pair (over p c (leb-true (p + c) s.end both.0)) e none)
            (λ _. none)
