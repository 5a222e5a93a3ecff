-- The longest run of a test, by the tests at each of its characters.
use Rattle.sre_model.proofs.Terms.{ℕ, zero, suc, ◌+◌, ◌-◌, ◌≡◌, ◌<◌, ◌≤◌, inl, inr, Bool, true, false, ◌&&◌, ◌||◌}
use Rattle.sre_model.proofs.Terms.{nat_eq, nat_lt, refl, arith, nat_tests, Test, Subject, passes, unlimited, run_length}
use Rattle.sre_model.proofs.Terms.{most_from, longest_run, cases_lt, cases_Bool}
use Rattle.sre_model.proofs.Along.{run_rounds}
use Rattle.sre_model.proofs.Bounds.{passes-below}

-- each of its characters passes
pub run_passes : (s : Subject) (t : Test) (n p c : ℕ) → c < run_length s t n p → passes s t (p + c) ≡ true
run_passes s t zero p c l = absurd (omega arith)
run_passes s t (suc n) p zero l = let e : p + 0 ≡ p = omega arith in rw e (grind arith)
run_passes s t (suc n) p (suc c) l =
    let e : p + suc c ≡ p + 1 + c = omega arith in
    rw e (run_passes s t n (p + 1) c (grind arith))

-- a run is empty where the first character does not pass
pub run_none : (s : Subject) (t : Test) (n p : ℕ) → passes s t p ≡ false → run_length s t n p ≡ 0
run_none s t zero p no_ = refl
run_none s t (suc n) p no_ = rw no_ refl

-- and the character behind it does not, unless it is as long as it may be
pub run_stopped : (s : Subject) (t : Test) (n p : ℕ) → run_length s t n p < n
    → passes s t (p + run_length s t n p) ≡ false
run_stopped s t zero p l = absurd (omega arith)
run_stopped s t (suc n) p l = elim (cases_Bool (passes s t p)) [
  | inl y ↦
      let e : p + suc (run_length s t n (p + 1)) ≡ p + 1 + run_length s t n (p + 1) = omega arith in
      let short : suc (run_length s t n (p + 1)) < suc n = rw y at l in
      rw (y, e) (run_stopped s t n (p + 1) (omega arith))
  | inr none ↦ let e : p + 0 ≡ p = omega arith in rw (none, e) none
]

pub run_at_most : (s : Subject) (t : Test) (n p : ℕ) → run_length s t n p ≤ n
run_at_most s t n p =
    (run_rounds (λ k l. k ≡ l) s (λ q r. Unit {0}) t (λ q e. tt) n p (run_length s t n p) (omega arith)).0

-- and lies in the window
pub run_inside : (s : Subject) (t : Test) (n p : ℕ) → run_length s t n p ≤ s.end - p
run_inside s t n p = elim (cases_lt (s.end - p) (run_length s t n p)) [
  | inl long ↦ absurd (omega (arith, passes-below s t (p + (s.end - p)) (run_passes s t n p (s.end - p) long)))
  | inr within ↦ within
]

-- a run has a length where its characters pass and the next does not
pub run_has : (s : Subject) (t : Test) (n p k : ℕ) → k ≤ n → ((c : ℕ) → c < k → passes s t (p + c) ≡ true)
    → (k < n → passes s t (p + k) ≡ false) → run_length s t n p ≡ k
run_has s t n p k l each stop =
    let r : ℕ = run_length s t n p in
    elim (cases_lt r k) [
      | inl short ↦
          let yes_ : passes s t (p + r) ≡ true = each r short in
          let no_ : passes s t (p + r) ≡ false = run_stopped s t n p (omega arith) in
          absurd (cc)
      | inr least ↦ elim (cases_lt k r) [
        | inl long ↦
            let yes_ : passes s t (p + k) ≡ true = run_passes s t n p k long in
            let no_ : passes s t (p + k) ≡ false = stop (omega (arith, run_at_most s t n p)) in
            absurd (cc)
        | inr most ↦ omega arith
      ]
    ]

-- whether the longest run goes on behind n characters of it
abbrev pub goes_on : Subject → Test → ℕ → ℕ → ℕ → Bool
goes_on s t high n q = (nat_eq high unlimited || nat_lt n high) && passes s t q

module _ (s : Subject) (t : Test) (high p : ℕ) (e : p ≤ s.end) where
  abbrev k : ℕ
  k = longest_run s t high p

  pub longest_goes_on : (c : ℕ) → c < k → goes_on s t high c (p + c) ≡ true
  longest_goes_on c l =
      let within : c < most_from s high p = omega (arith, run_at_most s t (most_from s high p) p) in
      let more : (nat_eq high unlimited || nat_lt c high) ≡ true = grind (arith, nat_tests) in
      rw (more, run_passes s t (most_from s high p) p c l) refl

  pub longest_stops : goes_on s t high k (p + k) ≡ false
  longest_stops = elim (cases_Bool (passes s t (p + k))) [
    | inl y ↦
        let inside : p + k < s.end = passes-below s t (p + k) y in
        elim (cases_lt k (most_from s high p)) [
          | inl short ↦ let no_ = run_stopped s t (most_from s high p) p short in absurd (cc)
          | inr all ↦ grind (arith, nat_tests)
        ]
    | inr none ↦ grind arith
  ]

  -- the first characters of a run that is as long as the least count
  pub least_there : (low : ℕ) → low ≤ k → run_length s t low p ≡ low
  least_there low l =
      run_has s t low p low (omega arith) (λ c h. run_passes s t (most_from s high p) p c (omega arith))
      (λ h. absurd (omega arith))

  -- and of one that is shorter
  pub least_short : (low : ℕ) → low ≤ high → k < low → run_length s t low p ≡ k
  least_short low h l =
      run_has s t low p k (omega arith) (λ c d. run_passes s t (most_from s high p) p c d) (λ d. stopped)
    where
      more : (nat_eq high unlimited || nat_lt k high) ≡ true
      more = grind (arith, nat_tests)

      stopped : passes s t (p + k) ≡ false
      stopped = rw more at longest_stops
