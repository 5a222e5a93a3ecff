-- An exact pattern tries the match paths of its tree in their order, so its first match is their first.
-- A single-character repeat is a loop over one character.
use Rattle.sre_patterns.proofs.Terms.{◌≡◌, ℕ, zero, suc, ◌+◌, ◌-◌, ◌<◌, ◌≤◌, Bool, true, false, cond, ◌&&◌, ◌||◌}
use Rattle.sre_patterns.proofs.Terms.{nat_lt, nat_eq, List, [], ◌∷◌, ◌++◌, Option, Some, None, refl, sym, ap, ap₂, ◌∙◌}
use Rattle.sre_patterns.proofs.Terms.{arith, flat_map, AllByRecursion, nat_tests, Re, cat, plus, holds, Order, Greedy}
use Rattle.sre_patterns.proofs.Terms.{Lazy, Test, Marks, Subject, char_at, Way, Body, here, unlimited, loop_ways}
use Rattle.sre_patterns.proofs.Terms.{item_ways, Between, Bounded, is_greedy, cond-true, each-both, IsMinLen, none-some}
use Rattle.sre_patterns.proofs.Terms.{option_or, Trace, accept, max, map, passes, item-bounded, kind_of, append-nil}
use Rattle.sre_patterns.proofs.Terms.{longest_run-fits, option_or-None, option_or_assoc, option_or_none}
use Rattle.sre_model.specs.Tree.{One}
use Rattle.sre_model.specs.Ways.{ordered, may_repeat, longest_run, rising, falling, counts, run_ways}
use Rattle.sre_model.specs.Loops.{loop_from}
use Rattle.regex_hir.specs.Re.{Rest, prefer, more_rounds, attempt}
use Rattle.sre_model.proofs.LoopCases.{loop-below-all, loop-beyond-all, loop-ways, alone}
use Rattle.regex_hir.proofs.AttemptLemmas.{more_rounds_unfold, attempt_cong_after}
use Rattle.regex_hir.specs.Meaning.{optional, copies, up_to, at_least, repeat}
use Rattle.sre_model.proofs.Longest.{goes_on, longest_goes_on, longest_stops}
use Rattle.sre_patterns.specs.Covers as exact

-- the last body began before here
abbrev pub Passed : Option ℕ → ℕ → Type 0
Passed None p = Unit {0}
Passed (Some q) p = q < p

-- so the greatest count alone tells whether a body may follow
pub repeats : (high count : ℕ) (last : Option ℕ) (p : ℕ) → Passed last p
    → may_repeat high count last p ≡ (nat_eq high unlimited || nat_lt count high)
repeats high count None p l = refl
repeats high count (Some q) p l = grind (arith, nat_tests)

module _ (s : Subject) (hay : List ℕ) (off : ℕ → ℕ) where
  abbrev tried : Rest → List Way → Option Trace
  tried = exact.tried off

  abbrev Exact : Re → Body → Type 0
  Exact = exact.Exact s hay off

  -- what is tried from ways after others
  pub tried-append : (k : Rest) (xs ys : List Way) → tried k (xs ++ ys) ≡ option_or (tried k xs) (tried k ys)
  tried-append k [] ys = refl
  tried-append k (x ∷ xs) ys =
      ap (option_or (k (off x.stop))) (tried-append k xs ys)
      ∙ sym (option_or_assoc (k (off x.stop)) (tried k xs) (tried k ys))

  -- and from the ways that each of some ways gives
  pub tried-flat : (P : Way → Type 0) (j k : Rest) (f : Way → List Way) (ws : List Way) → AllByRecursion P ws
      → ((w : Way) → P w → j (off w.stop) ≡ tried k (f w)) → tried j ws ≡ tried k (flat_map f ws)
  tried-flat P j k f [] h g = refl
  tried-flat P j k f (w ∷ ws) h g =
      ap₂ option_or (g w h.0) (tried-flat P j k f ws h.1 g) ∙ sym (tried-append k (f w) (flat_map f ws))

  -- and from one position alone
  pub tried-here : (k : Rest) (p : ℕ) (m : Marks) → tried k (here p m) ≡ k (off p)
  tried-here k p m = option_or-None (k (off p))

  tried-ordered : (k : Rest) (o : Order) (xs ys : List Way)
      → prefer (is_greedy o) (tried k xs) (tried k ys) ≡ tried k (ordered o xs ys)
  tried-ordered k Greedy xs ys = sym (tried-append k xs ys)
  tried-ordered k Lazy xs ys = sym (tried-append k ys xs)

  attempt-optional : (g : Bool) (b : Re) (k : Rest) (i : ℕ)
      → attempt hay (optional g b) k i ≡ prefer g (attempt hay b k i) (k i)
  unfolding attempt
  attempt-optional true b k i = refl
  attempt-optional false b k i = refl

  -- a loop whose body moves on
  module _ (up : (p q : ℕ) → p < q → q ≤ s.end → off p < off q) (o : Order) (low high : ℕ) (body : Body) (a : Re)
      (x : Exact a body) (b : Bounded s body)
      (moves : (p : ℕ) (m : Marks) → p ≤ s.end → AllByRecursion (λ w. p < w.stop) (body p m)) where
    abbrev loop : ℕ → Option ℕ → Body
    loop = loop_from s o low high body

    abbrev g : Bool
    g = is_greedy o

    abbrev OnWay : ℕ → Way → Type 0
    OnWay p w = Between s p w × (p < w.stop)

    on_way : (p : ℕ) (m : Marks) → p ≤ s.end → AllByRecursion (OnWay p) (body p m)
    on_way p m h = each-both (Between s p) (λ w. p < w.stop) (body p m) (b p m h) (moves p m h)

    -- a further body, or the end
    beyond : (k : Rest) (count : ℕ) (last : Option ℕ) (p : ℕ) (m : Marks) → p ≤ s.end → low ≤ count → Passed last p
        → (j : Rest) → (nat_eq high unlimited || nat_lt count high) ≡ true
        → ((w : Way) → OnWay p w → j (off w.stop) ≡ tried k (loop (count + 1) (Some p) w.stop w.marks))
        → prefer g (attempt hay a j (off p)) (k (off p)) ≡ tried k (loop count last p m)
    beyond k count last p m h l passed j may each =
        let tries : List Way = flat_map (λ w. loop (count + 1) (Some p) w.stop w.marks) (body p m) in
        ap₂ (prefer g)
        (x j p m h ∙ tried-flat (OnWay p) j k (λ w. loop (count + 1) (Some p) w.stop w.marks) (body p m) (on_way p m h)
        each)
        (sym (tried-here k p m))
        ∙ tried-ordered k o tries (here p m)
        ∙ ap (λ y. tried k (ordered o (cond y tries []) (here p m))) (sym (repeats high count last p passed ∙ may))
        ∙ ap (tried k) (sym (loop-beyond-all s o low high body b count last p m h l))

    ends : (k : Rest) (count : ℕ) (last : Option ℕ) (p : ℕ) (m : Marks) → p ≤ s.end → low ≤ count → Passed last p
        → (nat_eq high unlimited || nat_lt count high) ≡ false → k (off p) ≡ tried k (loop count last p m)
    ends k count last p m h l passed may =
        let tries : List Way = flat_map (λ w. loop (count + 1) (Some p) w.stop w.marks) (body p m) in
        sym (tried-here k p m)
        ∙ ap (tried k) (sym (alone o p m))
        ∙ ap (λ y. tried k (ordered o (cond y tries []) (here p m))) (sym (repeats high count last p passed ∙ may))
        ∙ ap (tried k) (sym (loop-beyond-all s o low high body b count last p m h l))

    -- so many further bodies at most
    up_to-exact : (n : ℕ) (k : Rest) (count : ℕ) (last : Option ℕ) (p : ℕ) (m : Marks) → p ≤ s.end → low ≤ count
        → count + n ≡ high → high < unlimited → Passed last p
        → attempt hay (up_to g n a) k (off p) ≡ tried k (loop count last p m)
    unfolding attempt
    up_to-exact zero k count last p m h l e u passed = ends k count last p m h l passed (grind (arith, nat_tests))
    up_to-exact (suc n) k count last p m h l e u passed =
        attempt-optional g (cat a (up_to g n a)) k (off p)
        ∙ beyond k count last p m h l passed (attempt hay (up_to g n a) k) (grind (arith, nat_tests))
        (λ w on. up_to-exact n k (count + 1) (Some p) w.stop w.marks on.0.1 (omega arith) (omega arith) u on.1)

    -- behind a body that read something, a further round
    round-on : (k other : Rest) (count : ℕ) (last : Option ℕ) (p : ℕ) (w : Way) → OnWay p w
        → more_rounds hay g (attempt hay a) k (off w.stop) ≡ tried k (loop count last w.stop w.marks)
        → cond (nat_lt (off p) (off w.stop)) (more_rounds hay g (attempt hay a) k (off w.stop)) (other (off w.stop))
        ≡ tried k (loop count last w.stop w.marks)
    round-on k other count last p w on e =
        let later : off p < off w.stop = up p w.stop on.1 on.0.1 in
        let moved : nat_lt (off p) (off w.stop) ≡ true = grind (arith, nat_tests) in
        cond-true (nat_lt (off p) (off w.stop)) (more_rounds hay g (attempt hay a) k (off w.stop)) (other (off w.stop))
        moved ∙ e

    -- any number of them
    rounds-exact : (fuel : ℕ) (k : Rest) (count : ℕ) (last : Option ℕ) (p : ℕ) (m : Marks) → s.end < p + fuel
        → p ≤ s.end
        → low ≤ count → nat_eq high unlimited ≡ true → Passed last p
        → more_rounds hay g (attempt hay a) k (off p) ≡ tried k (loop count last p m)
    rounds-exact zero k count last p m f h l e passed = absurd (omega arith)
    rounds-exact (suc fuel) k count last p m f h l e passed =
        more_rounds_unfold hay g a k (off p)
        ∙ beyond k count last p m h l passed
        (λ i. cond (nat_lt (off p) i) (more_rounds hay g (attempt hay a) k i) None)
        (ap (λ y. y || nat_lt count high) e)
        (λ w on. round-on k (λ _. None) (count + 1) (Some p) p w on
        (rounds-exact fuel k (count + 1) (Some p) w.stop w.marks (omega (arith, on.1)) on.0.1 (omega arith) e on.1))

    -- at least one
    plus-exact : (k : Rest) (count : ℕ) (last : Option ℕ) (p : ℕ) (m : Marks) → p ≤ s.end → low ≤ count
        → nat_eq high unlimited ≡ true → ((q : ℕ) → p < q → Passed last q)
        → attempt hay (plus g a) k (off p) ≡ tried k (flat_map (λ w. loop count last w.stop w.marks) (body p m))
    unfolding attempt
    plus-exact k count last p m h l e passed =
        x (λ j. cond (nat_lt (off p) j) (more_rounds hay g (attempt hay a) k j) (k j)) p m h
        ∙ tried-flat (OnWay p) (λ j. cond (nat_lt (off p) j) (more_rounds hay g (attempt hay a) k j) (k j)) k
        (λ w. loop count last w.stop w.marks) (body p m) (on_way p m h)
        (λ w on. round-on k k count last p w on
        (rounds-exact (s.end + 1) k count last w.stop w.marks (omega arith) on.0.1 l e (passed w.stop on.1)))

    -- bodies below the least count
    copies-exact : (r : Re) (k : Rest) (n count : ℕ) → count + n ≤ low
        → ((q : ℕ) (m : Marks) → q ≤ s.end → attempt hay r k (off q) ≡ tried k (loop (count + n) None q m))
        → (p : ℕ) (m : Marks) → p ≤ s.end → attempt hay (copies n a r) k (off p) ≡ tried k (loop count None p m)
    unfolding attempt
    copies-exact r k zero count l f p m h =
        let same : count + zero ≡ count = omega arith in
        f p m h ∙ ap (λ c. tried k (loop c None p m)) same
    copies-exact r k (suc n) count l f p m h =
        let same : count + suc n ≡ count + 1 + n = omega arith in
        x (attempt hay (copies n a r) k) p m h
        ∙ tried-flat (Between s p) (attempt hay (copies n a r) k) k (λ w. loop (count + 1) None w.stop w.marks)
        (body p m)
        (b p m h)
        (λ w on. copies-exact r k n (count + 1) (omega arith)
        (λ q n' i. f q n' i ∙ ap (λ c. tried k (loop c None q n')) same) w.stop w.marks on.1)
        ∙ ap (tried k) (sym (loop-below-all s o low high body b count None p m h (omega arith)))

    pub counted-exact : low ≤ high → high < unlimited → Exact (repeat low (Some high) g a) (loop_ways s o low high body)
    unfolding repeat
    counted-exact l u k p m h =
        copies-exact (up_to g (high - low) a) k low 0 (omega arith)
        (λ q n i. up_to-exact (high - low) k (0 + low) None q n i (omega arith) (omega arith) u tt) p m h
        ∙ ap (tried k) (sym (loop-ways s o low high body p m))

    -- and without a greatest count
    pub endless-exact : nat_eq high unlimited ≡ true → Exact (repeat low None g a) (loop_ways s o low high body)
    unfolding repeat attempt
    endless-exact e k p m h =
        by_low low refl ∙ ap (tried k) (sym (loop-ways s o low high body p m))
      where
        by_low : (n : ℕ) → low ≡ n → attempt hay (at_least g n a) k (off p) ≡ tried k (loop 0 None p m)
        by_low zero is =
            attempt-optional g (plus g a) k (off p)
            ∙ beyond k 0 None p m h (omega arith) tt
            (λ j. cond (nat_lt (off p) j) (more_rounds hay g (attempt hay a) k j) (k j))
            (ap (λ y. y || nat_lt 0 high) e)
            (λ w on. round-on k k (0 + 1) (Some p) p w on
            (rounds-exact (s.end + 1) k (0 + 1) (Some p) w.stop w.marks (omega arith) on.0.1 (omega arith) e on.1))
        by_low (suc c) is =
            let there : 0 + c ≡ c = omega arith in
            copies-exact (plus g a) k c 0 (omega arith)
            (λ q n i.
            plus-exact k (c + 1) None q n i (omega arith) e (λ r l. tt)
            ∙ ap (tried k) (sym (loop-below-all s o low high body b c None q n i (omega arith)))
            ∙ ap (λ z. tried k (loop z None q n)) (sym there)) p m h

  -- and from there if a test passes
  pub tried-cond : (k : Rest) (q : ℕ) (m : Marks) (y : Bool)
      → cond y (k (off q)) None ≡ tried k (cond y (here q m) [])
  tried-cond k q m true = sym (tried-here k q m)
  tried-cond k q m false = refl

  -- a pattern that goes on behind each character that passes, and at the window's end does not
  pub one-exact : (re : Re) (t : Test)
      → ((k : Rest) (p : ℕ) → p < s.end
      → attempt hay re k (off p) ≡ cond (holds s.table t (char_at s p)) (k (off (p + 1))) None)
      → ((k : Rest) → attempt hay re k (off s.end) ≡ None) → Exact re (item_ways s (One t))
  one-exact re t there past k p m h = by_place (nat_lt p s.end) refl
    where
      by_place : (y : Bool) → nat_lt p s.end ≡ y
          → attempt hay re k (off p) ≡ tried k (cond (y && holds s.table t (char_at s p)) (here (p + 1) m) [])
      by_place true e =
          there k p (grind (arith, nat_tests)) ∙ tried-cond k (p + 1) m (holds s.table t (char_at s p))
      by_place false e =
          let at : p ≡ s.end = grind (arith, nat_tests) in ap (λ q. attempt hay re k (off q)) at ∙ past k

  -- the end of the first of some ways
  abbrev pub first_end : List Way → Option Trace
  first_end [] = None
  first_end (w ∷ ws) = Some (record { end = off w.stop; writes = [] })

  -- an exact pattern matches as its body's first way ends, and where it has none not at all
  pub first-way : (re : Re) (body : Body) → Exact re body → (p : ℕ) (m : Marks) → p ≤ s.end
      → attempt hay re accept (off p) ≡ first_end (body p m)
  first-way re body x p m h = x accept p m h ∙ its (body p m)
    where
      its : (ws : List Way) → tried accept ws ≡ first_end ws
      its [] = refl
      its (w ∷ ws) = refl

  -- what goes on at one place alone
  abbrev only_at : ℕ → Rest
  only_at j i = cond (nat_eq i j) (Some (record { end = i; writes = [] })) None

  -- where each match reads a byte, each way moves on: what goes on at the start alone is never reached
  pub exact-moves : (re : Re) (body : Body) → Exact re body → IsMinLen re 1 → Bounded s body → (p : ℕ) (m : Marks)
      → p ≤ s.end → AllByRecursion (λ w. p < w.stop) (body p m)
  exact-moves re body x least b p m h =
      each (body p m) (b p m h)
      (sym (x (only_at (off p)) p m h)
      ∙ attempt_cong_after hay re (only_at (off p)) (λ _. None) (off p) least (λ j l u. grind (arith, nat_tests))
      ∙ x (λ _. None) p m h
      ∙ nothing (body p m))
    where
      nothing : (ws : List Way) → tried (λ _. None) ws ≡ None
      nothing [] = refl
      nothing (w ∷ ws) = nothing ws

      moved : (w : Way) → Between s p w → only_at (off p) (off w.stop) ≡ None → p < w.stop
      moved w b e = let same : w.stop ≡ p → off w.stop ≡ off p = λ i. ap off i in grind (arith, nat_tests, none-some)

      each : (ws : List Way) → AllByRecursion (Between s p) ws → tried (only_at (off p)) ws ≡ None
          → AllByRecursion (λ w. p < w.stop) ws
      each [] b e = tt
      each (w ∷ ws) b e =
          let parts = option_or_none (only_at (off p) (off w.stop)) (tried (only_at (off p)) ws) e in
          (moved w b.0 parts.0, each ws b.1 parts.1)

-- one way that two tests let through is followed
followed-one : (f : Way → List Way) (w : Way) (a b : Bool)
    → cond a (flat_map f (cond b (w ∷ []) [])) [] ≡ cond (a && b) (f w) []
followed-one f w true true = append-nil (f w)
followed-one f w true false = refl
followed-one f w false b = refl

module _ (p : ℕ) (m : Marks) where
  abbrev shape : ℕ → Way
  shape n = record { stop = p + n; marks = m }

  -- the ways of a run, by its least count and its longest one
  abbrev shown : Order → ℕ → ℕ → List Way
  shown o l k = map shape (counts (kind_of o) l k)

  shown-none : (o : Order) (l k : ℕ) → k < l → shown o l k ≡ []
  shown-none Greedy l k h = let none : k + 1 - l ≡ 0 = omega arith in ap (λ n. map shape (falling l n)) none
  shown-none Lazy l k h = let none : k + 1 - l ≡ 0 = omega arith in ap (λ n. map shape (rising l n)) none

  falling-last : (l n : ℕ) → map shape (falling l (suc n)) ≡ map shape (falling (l + 1) n) ++ here (p + l) m
  falling-last l zero = let same : l + 0 ≡ l = omega arith in ap (λ n. shape n ∷ []) same
  falling-last l (suc n) =
      let same : l + suc n ≡ l + 1 + n = omega arith in ap₂ (λ n ws. shape n ∷ ws) same (falling-last l n)

  -- the least one is the last one of a greedy run, and the first one of a lazy run
  shown-some : (o : Order) (l k : ℕ) → l ≤ k → ordered o (shown o (l + 1) k) (here (p + l) m) ≡ shown o l k
  shown-some Greedy l k h =
      let all : k + 1 - l ≡ suc (k - l) = omega arith in
      let others : k + 1 - (l + 1) ≡ k - l = omega arith in
      rw (all, others) (sym (falling-last l (k - l)))
  shown-some Lazy l k h =
      let all : k + 1 - l ≡ suc (k - l) = omega arith in
      let others : k + 1 - (l + 1) ≡ k - l = omega arith in
      rw (all, others) refl

later-passed : (last : Option ℕ) (p c : ℕ) → Passed last (p + c) → Passed last (p + (c + 1))
later-passed None p c l = tt
later-passed (Some q) p c l = omega arith

module _ (s : Subject) (o : Order) (t : Test) (low high : ℕ) (sound : low ≤ high) (p : ℕ) (m : Marks)
    (inside : p ≤ s.end) where
  abbrev one : Body
  one q n = item_ways s (One t) q n

  abbrev looped : ℕ → Option ℕ → Body
  looped = loop_from s o low high one

  abbrev k : ℕ
  k = longest_run s t high p

  abbrev left : ℕ → List Way
  left l = shown p m o l k

  -- what follows some ways behind so many characters, and a further character, if there may be one
  abbrev follows : ℕ → Option ℕ → List Way → List Way
  follows c after ws = flat_map (λ w. looped (c + 1) after w.stop w.marks) ws

  abbrev further : ℕ → Option ℕ → List Way
  further c after = cond (goes_on s t high c (p + c)) (looped (c + 1) after (p + c + 1) m) []

  -- the looped after so many characters of the run, by what follows a further one
  step : (c : ℕ) (last : Option ℕ) → c ≤ k → Passed last (p + c)
      → ((after : Option ℕ) → Passed after (p + (c + 1)) → further c after ≡ left (max low (c + 1)))
      → looped c last (p + c) m ≡ left (max low c)
  step c last l passed later = by_low (nat_lt c low) refl
    where
      within : p + c ≤ s.end
      within = omega (arith, longest_run-fits s t high p inside)

      kept : (after : Option ℕ) → Passed after (p + (c + 1))
          → cond (nat_eq high unlimited || nat_lt c high) (follows c after (one (p + c) m)) [] ≡ left (max low (c + 1))
      kept after a =
          followed-one (λ w. looped (c + 1) after w.stop w.marks) _ _ (passes s t (p + c)) ∙ later after a

      by_low : (x : Bool) → nat_lt c low ≡ x → looped c last (p + c) m ≡ left (max low c)
      by_low true x =
          let may : (nat_eq high unlimited || nat_lt c high) ≡ true = grind (arith, nat_tests) in
          let same : max low (c + 1) ≡ max low c = grind (arith, nat_tests) in
          loop-below-all s o low high one (item-bounded s (One t)) c last (p + c) m within (grind (arith, nat_tests))
          ∙ rw may at (kept last (later-passed last p c passed))
          ∙ ap left same
      by_low false x =
          let reached : max low c ≡ c = grind (arith, nat_tests) in
          let next : max low (c + 1) ≡ c + 1 = grind (arith, nat_tests) in
          loop-beyond-all s o low high one (item-bounded s (One t)) c last (p + c) m within (grind (arith, nat_tests))
          ∙ ap (λ b. ordered o (cond b (follows c (Some (p + c)) (one (p + c) m)) []) (here (p + c) m))
          (repeats high c last (p + c) passed)
          ∙ ap (λ ws. ordered o ws (here (p + c) m)) (kept (Some (p + c)) (omega arith) ∙ ap left next)
          ∙ shown-some p m o c k l
          ∙ ap left (sym reached)

  -- and by how many are left
  run-is-loop : (n c : ℕ) (last : Option ℕ) → c + n ≡ k → Passed last (p + c)
      → looped c last (p + c) m ≡ left (max low c)
  run-is-loop zero c last e passed =
      let all : k ≡ c = omega (arith, e) in
      let stops : goes_on s t high c (p + c) ≡ false = rw all at (longest_stops s t high p inside) in
      step c last (omega (arith, e)) passed
      (λ after a. rw stops (sym (shown-none p m o (max low (c + 1)) k (omega (arith, e)))))
  run-is-loop (suc n) c last e passed =
      let next : p + c + 1 ≡ p + (c + 1) = omega arith in
      step c last (omega (arith, e)) passed
      (λ after a. rw (longest_goes_on s t high p inside c (omega (arith, e)), next)
      (run-is-loop n (c + 1) after (omega (arith, e)) a))

  -- a run that gives back is a looped over one character
  pub run-loop : loop_ways s o low high one p m ≡ run_ways s (kind_of o) low high t p m
  run-loop =
      let start : p ≡ p + 0 = omega arith in
      let least : max low 0 ≡ low = omega arith in
      loop-ways s o low high one p m
      ∙ ap (λ q. looped 0 None q m) start
      ∙ run-is-loop k 0 None (omega arith) tt
      ∙ ap left least
