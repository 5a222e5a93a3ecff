-- Starts inside the repeat that a tree begins with have no match where the repeat's own start has none.
use Rattle.sre_model.proofs.Terms.{◌≡◌, ◌≤◌, ◌<◌, ◌+◌, ◌-◌, ℕ, zero, suc, List, [], ◌∷◌, ◌++◌, Bool, true, false, map}
use Rattle.sre_model.proofs.Terms.{nat_le, Option, Some, None, refl, sym, ap, subst, arith, flat_map, AllByRecursion}
use Rattle.sre_model.proofs.Terms.{nat_tests, Tree, Then, Test, RunKind, GreedyRun, LazyRun, PossessiveRun, Marks}
use Rattle.sre_model.proofs.Terms.{no_marks, set_mark, refers, Subject, passes, Way, unlimited, run_length, longest_run}
use Rattle.sre_model.proofs.Terms.{rising, falling, counts, ways, Asked, subject_of, is_accepted, first_accepted}
use Rattle.sre_model.proofs.Terms.{at_start, RunLeads, inl, inr, cases_lt, append-nil, front_passes, front_length}
use Rattle.sre_model.proofs.Terms.{NoneEnds, cases_Bool}
use Rattle.sre_model.specs.Tree.{One, Mark, Run}
use Rattle.sre_model.proofs.Each.{each-flat_map, each-map}
use Rattle.sre_model.proofs.MarksApart.{SameStops, ways-apart}
use Rattle.sre_model.proofs.Along.{IsCount, counts_each}
use Rattle.sre_model.proofs.Longest.{run_passes, run_stopped, run_inside, run_has}

-- Lists

each_left : {X : Type 0} (P : X → Type 0) (xs ys : List X) → AllByRecursion P (xs ++ ys) → AllByRecursion P xs
each_left P [] ys h = tt
each_left P (x ∷ xs) ys h = (h.0, each_left P xs ys h.1)

each_right : {X : Type 0} (P : X → Type 0) (xs ys : List X) → AllByRecursion P (xs ++ ys) → AllByRecursion P ys
each_right P [] ys h = h
each_right P (x ∷ xs) ys h = each_right P xs ys h.1

-- what holds of all that each element gives holds of what each gives
each_of_flat_map : {X Y : Type 0} (Q : Y → Type 0) (f : X → List Y) (xs : List X) → AllByRecursion Q (flat_map f xs)
    → AllByRecursion (λ x. AllByRecursion Q (f x)) xs
each_of_flat_map Q f [] h = tt
each_of_flat_map Q f (x ∷ xs) h =
    (each_left Q (f x) (flat_map f xs) h, each_of_flat_map Q f xs (each_right Q (f x) (flat_map f xs) h))

-- and what holds of all images of each image
each_of_map : {X Y : Type 0} (Q : Y → Type 0) (f : X → Y) (xs : List X) → AllByRecursion Q (map f xs)
    → AllByRecursion (λ x. Q (f x)) xs
each_of_map Q f [] h = tt
each_of_map Q f (x ∷ xs) h = (h.0, each_of_map Q f xs h.1)

-- Counts

module _ (P : ℕ → Type 0) where
  each_falling : (low n c : ℕ) → AllByRecursion P (falling low n) → low ≤ c → c < low + n → P c
  each_falling low zero c h l k = absurd (omega arith)
  each_falling low (suc n) c h l k = elim (cases_lt c (low + n)) [
    | inl less ↦ each_falling low n c h.1 l less
    | inr last ↦ let is : low + n ≡ c = omega arith in subst P is h.0
  ]

  each_rising : (low n c : ℕ) → AllByRecursion P (rising low n) → low ≤ c → c < low + n → P c
  each_rising low zero c h l k = absurd (omega arith)
  each_rising low (suc n) c h l k = elim (cases_lt low c) [
    | inl more ↦ each_rising (low + 1) n c h.1 (omega arith) (omega arith)
    | inr first ↦ let is : low ≡ c = omega arith in subst P is h.0
  ]

  each_count : (kind : RunKind) (low k c : ℕ) → AllByRecursion P (counts kind low k) → IsCount kind low k c → P c
  each_count GreedyRun low k c h i = each_falling low (k + 1 - low) c h i.0 (omega (arith, i.0, i.1))
  each_count LazyRun low k c h i = each_rising low (k + 1 - low) c h i.0 (omega (arith, i.0, i.1))
  each_count PossessiveRun low k c h i =
      let yes_ : nat_le low k ≡ true = grind (arith, nat_tests, i.0) in
      let first : AllByRecursion P (k ∷ []) = rw yes_ at h in
      subst P (sym (i.2 refl)) first.0

-- a count from d characters later is one of the run's own
count_later : (kind : RunKind) (low k d c : ℕ) → d ≤ k → IsCount kind low (k - d) c → IsCount kind low k (d + c)
count_later kind low k d c l i = (omega (arith, i.0), omega (arith, l, i.1), λ e. omega (arith, l, i.2 e))

-- Runs

-- the run from d characters later ends where it does
run_later : (s : Subject) (t : Test) (p d : ℕ) → d ≤ longest_run s t unlimited p
    → longest_run s t unlimited (p + d) ≡ longest_run s t unlimited p - d
run_later s t p d l =
    run_has s t (s.end - (p + d)) (p + d) (longest_run s t unlimited p - d)
    (omega (arith, run_inside s t (s.end - p) p)) passed stopped
  where
    k : ℕ
    k = run_length s t (s.end - p) p

    passed : (c : ℕ) → c < k - d → passes s t (p + d + c) ≡ true
    passed c h =
        let same : p + d + c ≡ p + (d + c) = omega arith in
        rw same (run_passes s t (s.end - p) p (d + c) (omega arith))

    stopped : k - d < s.end - (p + d) → passes s t (p + d + (k - d)) ≡ false
    stopped h =
        let same : p + d + (k - d) ≡ p + k = omega arith in
        rw same (run_stopped s t (s.end - p) p (omega arith))

-- Trees

module _ (s : Subject) (accepts : ℕ → Bool) (kind : RunKind) (low : ℕ) (test : Test) (rest : Tree) (p : ℕ)
    (m : Marks) where
  -- the way of a count
  abbrev counted : ℕ → Way
  counted c = record { stop = p + c; marks = m }

  -- what follows a run is what follows each of its counts
  run_none : ((c : ℕ) → IsCount kind low (longest_run s test unlimited p) c → NoneEnds accepts (ways s rest (p + c) m))
      → NoneEnds accepts (ways s (Then (Run kind low unlimited test) rest) p m)
  run_none h =
      each-flat_map (λ (w : Way). NoneEnds accepts (ways s rest w.stop w.marks)) (λ (w : Way). accepts w.stop ≡ false)
      (λ w. ways s rest w.stop w.marks) (λ w x. x) _
      (each-map (λ c. NoneEnds accepts (ways s rest (p + c) m)) _ counted (λ c x. x) _
      (counts_each _ kind low (longest_run s test unlimited p) h))

  none_run : NoneEnds accepts (ways s (Then (Run kind low unlimited test) rest) p m) → (c : ℕ)
      → IsCount kind low (longest_run s test unlimited p) c → NoneEnds accepts (ways s rest (p + c) m)
  none_run h c i =
      each_count (λ c. NoneEnds accepts (ways s rest (p + c) m)) kind low (longest_run s test unlimited p) c
      (each_of_map (λ (w : Way). NoneEnds accepts (ways s rest w.stop w.marks)) counted _
      (each_of_flat_map (λ (w : Way). accepts w.stop ≡ false) (λ w. ways s rest w.stop w.marks) _ h)) i

-- no way from inside the run ends accepted where none from its start does
later_none : (s : Subject) (accepts : ℕ → Bool) (kind : RunKind) (low : ℕ) (test : Test) (rest : Tree) (p d : ℕ)
    (m : Marks) → d ≤ longest_run s test unlimited p
    → NoneEnds accepts (ways s (Then (Run kind low unlimited test) rest) p m)
    → NoneEnds accepts (ways s (Then (Run kind low unlimited test) rest) (p + d) m)
later_none s accepts kind low test rest p d m l h = run_none s accepts kind low test rest (p + d) m each
  where
    each : (c : ℕ) → IsCount kind low (longest_run s test unlimited (p + d)) c
        → NoneEnds accepts (ways s rest (p + d + c) m)
    each c i =
        let left = rw (run_later s test p d l) at i in
        let same : p + d + c ≡ p + (d + c) = omega arith in
        let k : ℕ = longest_run s test unlimited p in
        rw same (none_run s accepts kind low test rest p m h (d + c) (count_later kind low k d c l left))

-- a run that begins the tree
pub run_leads : (kind : RunKind) (low : ℕ) (test : Test) (rest : Tree)
    → RunLeads (Then (Run kind low unlimited test) rest) None test
run_leads kind low test rest = record {
  none = λ s accepts p q m _ from to h.
      let there : p + (q - p) ≡ q = omega arith in
      let here : p + 0 ≡ p = omega arith in
      let within : q - p ≤ longest_run s test unlimited p = omega (arith, ap (longest_run s test unlimited) here) in
      rw (← there) (later_none s accepts kind low test rest p (q - p) m within h);
}

-- a test in front of it
pub front_leads : (x test : Test) (rest : Tree) → RunLeads rest None test → RunLeads (Then (One x) rest) (Some x) test
front_leads x test rest l = record { none = none }
  where
    none : (s : Subject) (accepts : ℕ → Bool) (p q : ℕ) (m : Marks) → passes s x p ≡ true → p ≤ q
        → q ≤ p + longest_run s test unlimited (p + 1) → NoneEnds accepts (ways s (Then (One x) rest) p m)
        → NoneEnds accepts (ways s (Then (One x) rest) q m)
    none s accepts p q m pass from to h = elim (cases_Bool (passes s x q)) [
      | inl y ↦
          rw (y, append-nil) (l.none s accepts (p + 1) (q + 1) m refl (omega arith)
          (omega (arith, ap (longest_run s test unlimited) here)) behind)
      | inr n ↦ rw n tt
    ]
      where
        here : p + 1 + 0 ≡ p + 1
        here = omega arith

        behind : NoneEnds accepts (ways s rest (p + 1) m)
        behind = each_left _ (ways s rest (p + 1) m) [] (rw pass at h)

-- a mark in front of it, where nothing behind it depends on marks
none_apart : (accepts : ℕ → Bool) (xs ys : List Way) → SameStops xs ys → NoneEnds accepts xs → NoneEnds accepts ys
none_apart accepts [] [] same h = tt
none_apart accepts [] (y ∷ ys) same h = absurd same
none_apart accepts (x ∷ xs) [] same h = tt
none_apart accepts (x ∷ xs) (y ∷ ys) same h =
    (subst (λ q. accepts q ≡ false) same.0 h.0, none_apart accepts xs ys same.1 h.1)

pub mark_leads : (n : ℕ) (rest : Tree) (front : Option Test) (test : Test) → refers rest ≡ false
    → RunLeads rest front test → RunLeads (Then (Mark n) rest) front test
mark_leads n rest front test apart l = record {
  none = λ s accepts p q m pass from to h.
      let behind : NoneEnds accepts (ways s rest p (set_mark m n p)) =
      each_left _ (ways s rest p (set_mark m n p)) [] h in
      rw append-nil (none_apart accepts (ways s rest q (set_mark m n p)) (ways s rest q (set_mark m n q))
      (ways-apart s rest apart q (set_mark m n p) (set_mark m n q))
      (l.none s accepts p q (set_mark m n p) pass from to behind));
}

-- Matches

-- no match at a start says that no way from it ends accepted
abbrev accepts_at : Asked → ℕ → Bool
accepts_at a p = is_accepted a (record { stop = p; marks = no_marks })

refused_each : (a : Asked) (s : ℕ) (ws : List Way) → first_accepted a s ws ≡ None → NoneEnds (accepts_at a) ws
refused_each a s [] e = tt
refused_each a s (w ∷ ws) e =
    let no_ : is_accepted a w ≡ false = grind arith in
    (no_, refused_each a s ws (rw no_ at e))

each_refused : (a : Asked) (s : ℕ) (ws : List Way) → NoneEnds (accepts_at a) ws → first_accepted a s ws ≡ None
each_refused a s [] h = refl
each_refused a s (w ∷ ws) h = let no_ : is_accepted a w ≡ false = h.0 in rw no_ (each_refused a s ws h.1)

-- where a run leads the tree, no match at p says the same of the starts behind it
pub none_in_run : (a : Asked) (t : Tree) (front : Option Test) (test : Test) (p q : ℕ) → RunLeads t front test
    → front_passes (subject_of a) front p ≡ true → at_start a t p ≡ None → p ≤ q
    → q ≤ p + longest_run (subject_of a) test unlimited (p + front_length front) → at_start a t q ≡ None
none_in_run a t front test p q l pass none from to =
    each_refused a q (ways (subject_of a) t q no_marks)
    (l.none (subject_of a) (accepts_at a) p q no_marks pass from to
    (refused_each a p (ways (subject_of a) t p no_marks) none))
