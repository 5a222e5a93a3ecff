-- Patterns that cover the parts of a tree, combined to one that covers it, and rounds of a pattern as a repetition.
use Rattle.sre_patterns.proofs.Terms.{◌≡◌, ℕ, zero, suc, ◌-◌, ◌<◌, ◌≤◌, min, max, Bool, true, false, cond, ◌||◌, nat_lt}
use Rattle.sre_patterns.proofs.Terms.{Option, Some, None, inl, inr, refl, sym, subst, arith, List, ◌+◌, [], ◌∷◌, ap}
use Rattle.sre_patterns.proofs.Terms.{nat_tests, none-some, same_Some, Re, cat, plus, empty, alt, byte_in, Rounds}
use Rattle.sre_patterns.proofs.Terms.{one_round, next_round, Matches, unlimited, Way, Body, here, ways, item_ways}
use Rattle.sre_patterns.proofs.Terms.{branch_ways, repeated, AllByRecursion, SreAtCode, Table, Tree, Then, Item, Test}
use Rattle.sre_patterns.proofs.Terms.{Order, RunKind, Sign, Marks, no_marks, holds, Subject, passes, holds_at, char_at}
use Rattle.sre_patterns.proofs.Terms.{each-weaken, each-cond, ways-bounded, Leads, Along, IsWider, View, CoversBody}
use Rattle.sre_patterns.proofs.Terms.{Covers, CoversItem, CoversTest, group, each-first, passes-below}
use Rattle.sre_model.specs.Tree.{Empty, Reference, Trees, Only, Or, Fold, Exists, ExistsElse, Look, Fail, At, Mark, Run}
use Rattle.sre_model.specs.Tree.{Atomic, AnyAll}
use Rattle.regex_hir.specs.Meaning.{optional, copies, up_to, at_least, repeat}
use Rattle.sre_model.proofs.Along.{Times, Counted, Alike, Goes, none, pair, each_way, weaken, goes-then, goes-or}
use Rattle.sre_model.proofs.Along.{goes-present, goes-look, goes-loop, goes-possessive, goes-run, goes-reference}
use Rattle.sre_patterns.proofs.Items.{loop_of}

-- a round before others
round-before : (R : ℕ → ℕ → Type 0) (i l j : ℕ) → R i l → Rounds R l j → Rounds R i j
round-before R i l j h (one_round _ r) = next_round l j (one_round l h) r
round-before R i l j h (next_round k _ rs r) = next_round k j (round-before R i l k h rs) r

rounds-of_times : (R : ℕ → ℕ → Type 0) (n i j : ℕ) → Times R (suc n) i j → Rounds R i j
rounds-of_times R zero i j h = one_round j (subst (R i) (sym h.2) h.1)
rounds-of_times R (suc n) i j h = round-before R i h.0 j h.1 (rounds-of_times R n h.0 j h.2)

module _ (hay : List ℕ) (greedy : Bool) (a : Re) where
  optional-none : (b : Re) (g : Bool) (i j : ℕ) → j ≡ i → Matches hay (optional g b) i j
  optional-none b true i j h = inr h
  optional-none b false i j h = inl h

  optional-some : (b : Re) (g : Bool) (i j : ℕ) → Matches hay b i j → Matches hay (optional g b) i j
  optional-some b true i j h = inl h
  optional-some b false i j h = inr h

  -- the first n of so many rounds are copies, where those after them match what follows
  copies-times : (b : Re) (n k i j : ℕ) → n ≤ k
      → ((l : ℕ) → Times (Matches hay a) (k - n) l j → Matches hay b l j)
      → Times (Matches hay a) k i j → Matches hay (copies n a b) i j
  copies-times b zero k i j l f h =
      let all : k ≡ k - zero = omega arith in f i (subst (λ c. Times (Matches hay a) c i j) all h)
  copies-times b (suc n) zero i j l f h = absurd (omega arith)
  copies-times b (suc n) (suc k) i j l f h =
      let left : k - n ≡ suc k - suc n = omega arith in (
        h.0,
        h.1,
        copies-times b n k h.0 j (omega arith) (λ q t. f q (subst (λ c. Times (Matches hay a) c q j) left t)) h.2,
      )

  up_to-times : (most n i j : ℕ) → n ≤ most → Times (Matches hay a) n i j → Matches hay (up_to greedy most a) i j
  up_to-times zero zero i j l h = h
  up_to-times zero (suc n) i j l h = absurd (omega arith)
  up_to-times (suc most) zero i j l h = optional-none (cat a (up_to greedy most a)) greedy i j h
  up_to-times (suc most) (suc n) i j l h =
      optional-some (cat a (up_to greedy most a)) greedy i j
      (h.0, h.1, up_to-times most n h.0 j (omega arith) h.2)

  at_least-times : (low n i j : ℕ) → low ≤ n → Times (Matches hay a) n i j → Matches hay (at_least greedy low a) i j
  at_least-times zero zero i j l h = optional-none (plus greedy a) greedy i j h
  at_least-times zero (suc n) i j l h =
      optional-some (plus greedy a) greedy i j (rounds-of_times (Matches hay a) n i j h)
  at_least-times (suc low) n i j l h =
      let left : n - low ≡ suc (n - suc low) = omega arith in
      copies-times (plus greedy a) low n i j (omega arith)
      (λ q t. rounds-of_times (Matches hay a) (n - suc low) q j (subst (λ c. Times (Matches hay a) c q j) left t)) h

  -- so many rounds are a repetition's, where the counts allow them
  pub repeat-times : (low : ℕ) (most : Option ℕ) (n i j : ℕ) → low ≤ n
      → ((top : ℕ) → most ≡ Some top → n ≤ max low top)
      → Times (Matches hay a) n i j → Matches hay (repeat low most greedy a) i j
  unfolding repeat
  repeat-times low None n i j l t h = at_least-times low n i j l h
  repeat-times low (Some top) n i j l t h =
      let within : n ≤ max low top = t top refl in
      copies-times (up_to greedy (top - low) a) low n i j l
      (λ q t. up_to-times (top - low) (n - low) q j (omega arith) t) h

  -- the same as far as the counts are kept
  pub repeated-times : (kept low high n i j : ℕ) → kept < unlimited → low ≤ n → (high < unlimited → n ≤ max low high)
      → Times (Matches hay a) n i j → Matches hay (repeated kept low high greedy a) i j
  repeated-times kept low high n i j k l t h = by_test (nat_lt kept low || nat_lt kept high) refl
    where
      by_test : (x : Bool) → (nat_lt kept low || nat_lt kept high) ≡ x
          → Matches hay (repeat (min low kept) (cond x None (Some high)) greedy a) i j
      by_test true e = repeat-times (min low kept) None n i j (omega arith) (λ top g. absurd (none-some top g)) h
      by_test false e =
          let below : low ≤ kept = grind (arith, nat_tests) in
          let under : high ≤ kept = grind (arith, nat_tests) in
          let most : n ≤ max low high = t (omega arith) in
          repeat-times (min low kept) (Some high) n i j (omega arith)
          (λ top g. let same : high ≡ top = same_Some high top g in omega arith) h

-- A relation between patterns and the ways of a body is one between patterns and trees if it holds of a tree's parts.
pub record Composes (T : Re → (Subject → Body) → Type 0) : Type 0 where
  pub nothing : T empty (λ s. ways s Empty)
  pub joined : (a b : Re) (item : Item) (rest : Tree) → T a (λ s. item_ways s item) → T b (λ s. ways s rest)
      → T (cat a b) (λ s. ways s (Then item rest))
  pub failed : T (byte_in []) (λ s. item_ways s Fail)
  pub marked : (n : ℕ) → T empty (λ s. item_ways s (Mark n))
  pub last : (a : Re) (t : Tree) → T a (λ s. ways s t) → T (alt a (byte_in [])) (λ s. branch_ways s (Only t))
  pub either : (a b : Re) (t : Tree) (ts : Trees) → T a (λ s. ways s t) → T b (λ s. branch_ways s ts)
      → T (alt a b) (λ s. branch_ways s (Or t ts))

abbrev Same : Marks → Marks → Type 0
Same k l = k ≡ l

same_group : (g : ℕ) (m n : Marks) → Same m n → group m g ≡ group n g
same_group g m n e = ap (λ k. group k g) e

module _ (s : Subject) where
  -- a way from p along R that ends in the window
  abbrev pub Leg : (ℕ → ℕ → Type 0) → ℕ → Way → Type 0
  Leg R p w = R p w.stop × (w.stop ≤ s.end)

  -- from inside the window along R, to inside the window
  abbrev Inside : (ℕ → ℕ → Type 0) → ℕ → ℕ → Type 0
  Inside R p q = p ≤ s.end → R p q × (q ≤ s.end)

  -- the two forms of a body along R
  goes : (R : ℕ → ℕ → Type 0) (body : Body) → Along s R body → Goes Same (Inside R) body
  goes R body a p m n e =
      subst (λ k. Alike Same (Inside R p) (body p m) (body p k)) e (each (body p m) (a p m))
    where
      each : (ws : List Way) → (p ≤ s.end → AllByRecursion (Leg R p) ws) → Alike Same (Inside R p) ws ws
      each [] f = none
      each (w ∷ ws) f = pair (λ h. (f h).0) refl (each ws (λ h. (f h).1))

  along : (R : ℕ → ℕ → Type 0) (body : Body) → Goes Same (Inside R) body → Along s R body
  along R body g p m h = each_way Same (Leg R p) (λ w r. r h) (g p m m refl)

module _ (s : Subject) (hay : List ℕ) (off : ℕ → ℕ) where
  abbrev L : Re → ℕ → ℕ → Type 0
  L re = Inside s (Leads hay off re)

  times-leads : (re : Re) (n p q : ℕ) → Times (L re) n p q → p ≤ s.end
      → Times (Matches hay re) n (off p) (off q) × (q ≤ s.end)
  times-leads re zero p q t h = (ap off t, omega (arith, t, h))
  times-leads re (suc n) p q t h =
      let first = t.1 h in
      let later = times-leads re n t.0 q t.2 first.1 in
      ((off t.0, first.0, later.0), later.1)

  -- over any characters of the window
  stepped : (re : Re) → ((p : ℕ) → passes s AnyAll p ≡ true → L re p (p + 1)) → (n p : ℕ) → p + n ≤ s.end
      → Times (Matches hay re) n (off p) (off (p + n))
  stepped re g zero p l = let same : p + zero ≡ p = omega arith in ap off same
  stepped re g (suc n) p l =
      let same : p + 1 + n ≡ p + suc n = omega arith in (
        off (p + 1),
        (g p (grind (arith, nat_tests)) (omega arith)).0,
        subst (λ q. Times (Matches hay re) n (off (p + 1)) (off q)) same (stepped re g n (p + 1) (omega arith)),
      )

module _ (V : View) (table : Table) where
  abbrev C : Re → (Subject → Body) → Type 0
  C = CoversBody V table

  -- on each text that is seen so, the body goes along a relation
  abbrev GoesOn : ((Subject → List ℕ → (ℕ → ℕ) → ℕ → ℕ → Type 0)) → (Subject → Body) → Type 0
  GoesOn R body =
      (s : Subject) (hay : List ℕ) (off : ℕ → ℕ) → V s hay off → s.table ≡ table → Goes Same (R s hay off) (body s)

  gone : (re : Re) (body : Subject → Body) → C re body → GoesOn (λ s hay off. L s hay off re) body
  gone re body f s hay off v same = goes s (Leads hay off re) (body s) (f.covers s hay off v same)

  by-goes : (re : Re) (body : Subject → Body) → GoesOn (λ s hay off. L s hay off re) body → C re body
  by-goes re body f = record {
    covers = λ s hay off v same. along s (Leads hay off re) (body s) (f s hay off v same);
  }

  pub covers-wider : (a b : Re) (body : Subject → Body) → IsWider a b → C a body → C b body
  covers-wider a b body wider f = record {
    covers = λ s hay off v same p m h.
        each-weaken (Leg s (Leads hay off a) p) (Leg s (Leads hay off b) p)
        (λ w l. (wider hay (off p) (off w.stop) l.0, l.1)) (body s p m) (f.covers s hay off v same p m h);
  }

  -- one of two patterns
  left : (a b : Re) (body : Subject → Body) → C a body → C (alt a b) body
  left a b body = covers-wider a (alt a b) body (λ hay i j. inl)

  right : (a b : Re) (body : Subject → Body) → C b body → C (alt a b) body
  right a b body = covers-wider b (alt a b) body (λ hay i j. inr)

  pub covers-parts : Composes C
  covers-parts = record {
    nothing = record { covers = λ s hay off v same p m h. ((refl, h), tt) };
    joined = λ a b item rest f g. by-goes _ _ (λ s hay off v same.
        goes-then Same (item_ways s item) (ways s rest)
        (λ p l q x y h. let first = x h in let later = y first.1 in ((off l, first.0, later.0), later.1))
        (gone _ _ f s hay off v same) (gone _ _ g s hay off v same));
    failed = record { covers = λ s hay off v same p m h. tt };
    marked = λ n. record { covers = λ s hay off v same p m h. ((refl, h), tt) };
    last = λ a t. left a (byte_in []) (λ s. ways s t);
    either = λ a b t ts f g. by-goes _ _ (λ s hay off v same.
        goes-or Same (ways s t) (branch_ways s ts) (gone _ _ (left a b _ f) s hay off v same)
        (gone _ _ (right a b _ g) s hay off v same));
  }

  -- a pattern that reads each character that passes
  pub covers-one : (re : Re) (t : Test)
      → ((s : Subject) (hay : List ℕ) (off : ℕ → ℕ) → V s hay off → (p : ℕ) → p < s.end
      → holds table t (char_at s p) ≡ true → Leads hay off re p (p + 1)) → CoversTest V table re t
  covers-one re t f = record {
    covers = λ s hay off v same p m h.
        each-cond (Leg s (Leads hay off re) p) (passes s t p) (here (p + 1) m) []
        (λ e. let below = passes-below s t p e in
        let passed : holds table t (char_at s p) ≡ true =
        subst (λ x. holds x t (char_at s p) ≡ true) same (grind (arith, nat_tests)) in
        ((f s hay off v p below passed, omega (arith, below)), tt)) (λ _. tt);
  }

  over : (re : Re) (t : Test) → CoversTest V table re t → (s : Subject) (hay : List ℕ) (off : ℕ → ℕ) → V s hay off
      → s.table ≡ table → (p : ℕ) → passes s t p ≡ true → L s hay off re p (p + 1)
  over re t f s hay off v same p e h =
      let each = f.covers s hay off v same p no_marks h in (rw e at each).0

  -- a pattern that reads nothing and holds wherever a position does
  pub covers-position : (re : Re) (a : SreAtCode)
      → ((s : Subject) (hay : List ℕ) (off : ℕ → ℕ) → V s hay off → (p : ℕ) → p ≤ s.end → holds_at s a p ≡ true
      → Leads hay off re p p) → CoversItem V table re (At a)
  covers-position re a f = record {
    covers = λ s hay off v same p m h.
        each-cond (Leg s (Leads hay off re) p) (holds_at s a p) (here p m) [] (λ e. ((f s hay off v p h e, h), tt))
        (λ _. tt);
  }

  pub covers-at : (a : SreAtCode) → CoversItem V table empty (At a)
  covers-at a = covers-position empty a (λ s hay off v p h e. refl)

  -- rounds, as far as the counts are kept
  module _ (kept low high : ℕ) (greedy : Bool) (re : Re) (few : kept < unlimited) where
    counted : (body : Subject → Body) → GoesOn (λ s hay off. Counted (L s hay off re) high 0 low) body
        → C (repeated kept low high greedy re) body
    counted body g =
        by-goes (repeated kept low high greedy re) body (λ s hay off v same p m n e.
        weaken Same
        (λ q c h. let all = times-leads s hay off re c.0 p q c.3 h in (
          repeated-times hay greedy re kept low high c.0 (off p) (off q) few c.1 (λ u. omega (arith, c.2 u)) all.0,
          all.1,
        ))
        (g s hay off v same p m n e))

    pub covers-loop : (k : Option Order) (body : Tree) → Covers V table re body
        → CoversItem V table (repeated kept low high greedy re) (loop_of k low high body)
    covers-loop (Some o) body f =
        counted _ (λ s hay off v same. goes-loop Same s o low high (ways s body) (gone _ _ f s hay off v same))
    covers-loop None body f =
        counted _ (λ s hay off v same. goes-possessive Same s low high (ways s body) (gone _ _ f s hay off v same))

    pub covers-run : (kind : RunKind) (t : Test) → CoversTest V table re t
        → CoversItem V table (repeated kept low high greedy re) (Run kind low high t)
    covers-run kind t f =
        counted _ (λ s hay off v same. goes-run Same s kind low high t (over re t f s hay off v same))

  pub covers-atomic : (re : Re) (body : Tree) → Covers V table re body → CoversItem V table re (Atomic body)
  covers-atomic re body f = record {
    covers = λ s hay off v same p m h.
        each-first (Leg s (Leads hay off re) p) (ways s body p m) (f.covers s hay off v same p m h);
  }

  pub covers-look : (sign : Sign) (back : ℕ) (body : Tree) → CoversItem V table empty (Look sign back body)
  covers-look sign back body =
      by-goes _ _ (λ s hay off v same.
      goes-look Same (L s hay off empty) (λ p h. (refl, h)) sign back (ways s body)
      (goes s (λ p q. p ≤ q) (ways s body) (ways-bounded s body)))

  pub covers-reference : (greedy : Bool) (re : Re) (f : Fold) (g : ℕ) → CoversTest V table re AnyAll
      → CoversItem V table (repeat 0 None greedy re) (Reference f g)
  covers-reference greedy re f g c =
      by-goes _ _ (λ s hay off v same.
      goes-reference Same s (L s hay off (repeat 0 None greedy re)) f g (same_group g)
      (λ p n l h. (
        repeat-times hay greedy re 0 None n (off p) (off (p + n)) (omega arith) (λ top e. absurd (none-some top e))
            (stepped s hay off re (over re AnyAll c s hay off v same) n p l),
        l,
      )))

  pub covers-either : (a b : Re) (g : ℕ) (there absent : Tree) → Covers V table a there → Covers V table b absent
      → CoversItem V table (alt a b) (ExistsElse g there absent)
  covers-either a b g there absent f h =
      by-goes _ _ (λ s hay off v same.
      goes-present Same g (ways s there) (ways s absent) (same_group g) (gone _ _ (left a b _ f) s hay off v same)
      (gone _ _ (right a b _ h) s hay off v same))

  pub covers-exists : (a : Re) (g : ℕ) (there : Tree) → Covers V table a there
      → CoversItem V table (alt a empty) (Exists g there)
  covers-exists a g there f = covers-either a empty g there Empty f covers-parts.nothing
