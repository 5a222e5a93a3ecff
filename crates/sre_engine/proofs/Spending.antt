-- How the steps and the costs of a search's runs add up, and that they keep to a sufficient budget.
use Rattle.sre_engine.proofs.Terms.{◌≡◌, ℕ, ◌+◌, ◌*◌, ◌≤◌, ◌⊎◌, inl, inr, false, true, Refused, [], refl, arith, Result}
use Rattle.sre_engine.proofs.Terms.{Ok, Err, IfErr, IsErrAnd, sym, subst, add-mul, mul-le-mul_right, Ghosts}
use Rattle.sre_engine.proofs.Terms.{StringCursor, Request, start_of, run_of, most_steps, MemoValue, Remembering}
use Rattle.sre_engine.proofs.Terms.{rows_from, each_of, search_cost, most_tolls, most_waits, SearchCosts, one-mul}
use Rattle.sre_engine.proofs.Terms.{account_few, run_cost, RunStops, RunSettles, HoldsBits, ◌-◌, ◌<◌, ◌≢◌, Tree, Whole}
use Rattle.sre_engine.proofs.Terms.{Asked, subject_of, behind_items, RunsWithin, words_of, Code, SpentUpTo, mul-le-mul}
use Rattle.sre_engine.proofs.Terms.{turns_of, most_each, Bool, length, Option, None, ap, ◌∙◌, IsRemembered, step_bound}
use Rattle.sre_engine.proofs.Terms.{end_of, asked_of, code_of, items_of, is_limited, left_of, Allowance, Halt}
use Rattle.sre_engine.proofs.Terms.{items_whole, Charged, IfOk, kept_positions, sides, cost_of, AreEnough, KeepsToSteps}
use Rattle.std.specs.declared.alloc.Allocator.{Ghosts as Memory}
use Rattle.sre_machine.specs.declared.turns.Halt.TheVariants as halt

-- How the costs of a search's runs add up.

-- what holds of an error that is passed on
pub passed_on : {T E : Type 0} (result : Result T E) (e : E) (P : E → Type 0) → IsErrAnd result (λ y. y ≡ e) → P e
    → IfErr result P
passed_on (Ok x) e P h p = absurd h
passed_on (Err y) e P h p = subst P (sym h) p

-- runs with no outcome, from some memo that began to one that is there now: what they cost of the steps that were
-- given, and, where failures are memoized by now, what the memory holds
pub record CostsSince (M : Type 0) {S : Type 0} {text : Ghosts S} (r : Request S text) (now : MemoValue)
    (given left runs : ℕ) : Type 0 where
  pub begun : MemoValue
  pub waits : begun.waits ≤ most_waits r
  pub cost : (pl : Remembering r)
      → Refused M ⊎ (((now.is_open ≡ false) × (given + now.waits ≤ left + begun.waits))
      ⊎ ((tolls n : ℕ) × (tolls ≤ n) × HoldsBits r pl now n × (now.is_open ≡ true)
      × (given ≤ left + begun.waits + search_cost r pl runs tolls)))

module _ {S : Type 0} {text : Ghosts S} (r : Request S text) where
  -- what a run costs, as a search of one run
  one_run : (pl : Remembering r) (t : ℕ) → search_cost r pl 1 t ≡ run_cost r pl t
  one_run pl t = rw (one-mul (1 + most_steps pl.plain.tree)) refl

  -- what j runs cost, and what k more of them cost
  sum : (pl : Remembering r) (j k s t : ℕ)
      → search_cost r pl (j + k) (s + t) ≡ search_cost r pl j s + search_cost r pl k t
  sum pl j k s t =
      let a : ℕ = 1 + most_steps pl.plain.tree in
      let same : (j + k) * a + (s + t) ≡ (j * a + s) + (k * a + t) = omega (arith, add-mul j k a) in
      rw same (add-mul (j * a + s) (k * a + t) (each_of r pl))

  -- more runs and more credits cost no less
  more : (pl : Remembering r) (j k s t : ℕ) → j ≤ k → s ≤ t → search_cost r pl j s ≤ search_cost r pl k t
  more pl j k s t h l =
      let runs = mul-le-mul_right (1 + most_steps pl.plain.tree) h in
      mul-le-mul_right (each_of r pl) (omega (arith, runs, l))

  -- before any run, of a memo that keeps no failures
  pub since_begin : {M : Type 0} (m : MemoValue) (left : ℕ) → m.waits ≤ most_waits r → m.is_open ≡ false
      → CostsSince M r m left left 0
  since_begin m left waits closed =
      record { begun = m; waits = waits; cost = λ pl. inr (inl (closed, omega arith)) }

  -- another run with no outcome
  pub since_run : {M : Type 0} (m m' : MemoValue) (start : StringCursor) (given left after before runs : ℕ)
      → CostsSince M r m given left before → RunSettles M r start m m' left after → start_of r ≤ start.position
      → runs ≡ before + 1 → CostsSince M r m' given after runs
  since_run m m' start given left after before runs old run from e = rw e (record {
    begun = old.begun;
    waits = old.waits;
    cost = λ pl. elim (old.cost pl) [
      | inl refused ↦ inl refused
      | inr (inl x) ↦ elim (run.closed pl from x.0) [
        | inl refused ↦ inl refused
        | inr (inl y) ↦ inr (inl (y.0, omega (arith, x.1, y.1)))
        | inr (inr y) ↦
            let most = more pl 1 (before + 1) y.0 y.0 (omega arith) (omega arith) in
            inr (inr (y.0, y.1, y.2, y.3, y.4, omega (arith, most, one_run pl y.0, x.1, y.5)))
      ]
      | inr (inr x) ↦ elim (run.keeping pl from x.4 x.1 x.3) [
        | inl refused ↦ inl refused
        | inr y ↦
            inr (inr (
              x.0 + y.0,
              y.1,
              omega (arith, x.2, y.2),
              y.3,
              y.4,
              omega (arith, sum pl before 1 x.0 y.0, one_run pl y.0, x.5, y.5),
            ))
      ]
    ];
  })

  -- another run, which is the last: no more steps were waited and no more credits granted than from where the memo
  -- begins
  pub since_stopped : {M : Type 0} (m : MemoValue) (start : StringCursor) (given left after before runs : ℕ)
      → CostsSince M r m given left before → RunStops M r start m left after → start_of r ≤ start.position
      → runs ≡ before + 1 → SearchCosts M r given after runs
  since_stopped m start given left after before runs old run from e = rw e (record {
    cost = λ pl. elim (old.cost pl) [
      | inl refused ↦ inl refused
      | inr (inl x) ↦ elim (run.closed pl from x.0) [
        | inl refused ↦ inl refused
        | inr y ↦
            let most = more pl 1 (before + 1) y.0 (most_tolls r pl) (omega arith) y.1 in
            inr (omega (arith, most, one_run pl y.0, x.1, y.2, old.waits))
      ]
      | inr (inr x) ↦ elim (run.keeping pl from x.4 x.1 x.3) [
        | inl refused ↦ inl refused
        | inr y ↦
            let few : x.0 + y.0 ≤ most_tolls r pl = omega (arith, x.2, y.1) in
            let most = more pl (before + 1) (before + 1) (x.0 + y.0) (most_tolls r pl) (omega arith) few in
            inr (omega (arith, sum pl before 1 x.0 y.0, most, one_run pl y.0, x.5, y.2, old.waits))
      ]
    ];
  })

  -- no further run: the credits are paid by what the memory holds
  pub since_ended : {M : Type 0} (m : MemoValue) (given left runs : ℕ) → CostsSince M r m given left runs
      → SearchCosts M r given left runs
  since_ended m given left runs old = record {
    cost = λ pl. elim (old.cost pl) [
      | inl refused ↦ inl refused
      | inr (inl x) ↦ inr (omega (arith, x.1, old.waits))
      | inr (inr x) ↦
          let few : x.1 ≤ most_tolls r pl =
          account_few (run_of r) pl.plain (rows_from r pl) m.kept m.ends [] x.1 x.3.account in
          let most = more pl runs runs x.0 (most_tolls r pl) (omega arith) (omega (arith, x.2, few)) in
          inr (omega (arith, most, x.5, old.waits))
    ];
  }

-- How the steps of a search's runs add up.

-- a run, and those that begin again where it began
pub once_spent : (a : Asked) (code : Code) (n p given left runs : ℕ) → p ≤ a.end
    → ((t : Tree) → Whole (words_of code) t
    → given ≤ left + runs * (turns_of (subject_of a) (behind_items n t) p * most_each a))
    → SpentUpTo a code given left runs
once_spent a code n p given left runs inside run = record {
  each = λ t whole most within.
      let few : runs * (turns_of (subject_of a) (behind_items n t) p * most_each a) ≤ runs * most =
      mul-le-mul (omega arith) (within.each n p inside) in
      omega (arith, run t whole, few);
}

-- another run, which may have begun again
pub run_spent : (a : Asked) (code : Code) (given left after started restarted started' restarted' : ℕ)
    → SpentUpTo a code given left (started + restarted) → SpentUpTo a code left after (1 + restarted' - restarted)
    → started' ≡ started + 1 → restarted ≤ restarted' → SpentUpTo a code given after (started' + restarted')
run_spent a code given left after started restarted started' restarted' old one e l = record {
  each = λ t whole most within.
      let o = old.each t whole most within in
      let n = one.each t whole most within in
      let runs : started' + restarted' ≡ (started + restarted) + (1 + restarted' - restarted) = omega (arith, e, l) in
      rw runs (omega (arith, o, n, add-mul (started + restarted) (1 + restarted' - restarted) most));
}

-- a budget of more steps than so many runs can take is not used up
pub never_used_up : (a : Asked) (code : Code) (t : Tree) (given left started most count : ℕ) → Whole (words_of code) t
    → RunsWithin a t most → SpentUpTo a code given left started → started ≤ count → count * most < given → left ≢ 0
never_used_up a code t given left started most count whole within spent few more used =
    let all = spent.each t whole most within in
    absurd (omega (arith, all, mul-le-mul_right most few, more, used))

-- A search that memoizes each failure takes at most its step bound, unless an allocation failed. So it exceeds no
-- sufficient step limit.

-- runs from as many starts as there are, from where a memo begins, cost no more
few : {S : Type 0} {text : Ghosts S} (r : Request S text) (pl : Remembering r) (runs : ℕ)
    → runs ≤ end_of r + 1 - start_of r
    → most_waits r + search_cost r pl runs (most_tolls r pl) ≤ step_bound pl.plain.tree (asked_of r)
few r pl runs l =
    let t = pl.plain.tree in
    let f : ℕ = kept_positions t (asked_of r) in
    let window : end_of r + 1 - start_of r ≤ f = omega arith in
    let waits : most_waits r ≤ f * 32 = omega (arith, pl.order) in
    let own : runs * (1 + most_steps t) ≤ f * (1 + most_steps t) =
    mul-le-mul_right (1 + most_steps t) (omega (arith, l, window)) in
    let all : runs * (1 + most_steps t) + most_tolls r pl
    ≤ f * (1 + most_steps t + cost_of (end_of r) 1 t 2 * sides t) = omega (arith, own) in
    omega (arith, mul-le-mul_right (each_of r pl) all, waits)

-- a search where each failure is memoized takes at most its step bound
costs_few : {M S : Type 0} {text : Ghosts S} (r : Request S text) (given left runs : ℕ)
    → SearchCosts M r given left runs
    → runs ≤ end_of r + 1 - start_of r → (t : Tree) → Whole (words_of (code_of r)) t
    → IsRemembered (length (items_of (code_of r))) t (asked_of r)
    → Refused M ⊎ (given ≤ left + step_bound t (asked_of r))
costs_few r given left runs costs l t whole is =
    let pl : Remembering r = record {
      plain = record { tree = t; whole = items_whole (code_of r) t whole; no_reference = is.no_reference };
      unmarked = is.unmarked;
      room = record { words = is.room; slots = is.slots; whole = is.whole };
      order = is.order;
    } in
    elim (costs.cost pl) [
      | inl refused ↦ inl refused
      | inr cost ↦ inr (omega (arith, cost, few r pl runs l))
    ]

-- so a sufficient budget is not used up
not_exceeded : (M : Type 0) {E : Type 0} (a : Asked) (code : Code) (answer : Result (Option Bool) E) (given left : ℕ)
    → IfOk answer (λ b. b ≡ None → left ≡ 0)
    → ((t : Tree) → Whole (words_of code) t → IsRemembered (length (items_of code)) t a
    → Refused M ⊎ (given ≤ left + step_bound t a))
    → AreEnough a code given → IfOk answer (λ b. b ≡ None → Refused M)
not_exceeded M a code (Ok b) given left used bounded enough = λ none.
    elim (bounded enough.tree enough.whole enough.remembered) [
      | inl refused ↦ refused
      | inr l ↦ absurd (omega (arith, l, used none, enough.more))
    ]
not_exceeded M a code (Err e) given left used bounded enough = tt

-- a call that charges a search to its budget keeps to it
pub keeps_to : {M S E : Type 0} {memory : Memory M} {text : Ghosts S} (r : Request S text) (given : ℕ)
    (a a' : Allowance)
    (told : Result Bool (Halt M memory)) (started runs left : ℕ) (answer : Result (Option Bool) E)
    → Charged r told started runs a a' → is_limited a ≡ true → left_of a ≡ given → left ≡ left_of a'
    → started ≤ end_of r + 1 - start_of r → IfOk answer (λ b. b ≡ None → left_of a' ≡ 0)
    → KeepsToSteps M (asked_of r) (code_of r) answer runs given left
keeps_to {M} r given a a' told started runs left answer charged limited same own few used =
    let bounded = costs_few r (left_of a) (left_of a') started (charged.cost limited) few in
    rw (own, ← same) (record {
      used = used;
      spent = charged.spent;
      fewer = charged.fewer;
      bounded = bounded;
      enough = not_exceeded M (asked_of r) (code_of r) answer (left_of a) (left_of a') used bounded;
    })

-- no step is left where the limit is exceeded
pub used_up : {M S : Type 0} {memory : Memory M} {text : Ghosts S} (r : Request S text) (a a' : Allowance)
    (told : Result Bool (Halt M memory))
    (started runs : ℕ) → Charged r told started runs a a' → (why : Halt M memory) → told ≡ Err why → why ≡ halt.UsedUp
    → left_of a' ≡ 0
used_up r a a' told started runs charged why e used =
    (subst (λ t. Charged r t started runs a a') (e ∙ ap Err used) charged).halted.1
