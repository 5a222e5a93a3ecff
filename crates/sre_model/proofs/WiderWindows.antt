-- What is memoized and counted for a range holds of each range inside it.
use Rattle.sre_model.proofs.Terms.{ℕ, ◌+◌, ◌-◌, ◌*◌, ◌/◌, ◌≤◌, Bool, true, false, cond, nat_eq, arith, mul-le-mul_right}
use Rattle.sre_model.proofs.Terms.{Tree, Empty, Then, Item, Trees, Only, Or, PossessiveRun, unlimited, Asked, min}
use Rattle.sre_model.proofs.Terms.{mul-le-mul, mul-le-mul_left, counted_to, loop_slots, most_slots, steps_of}
use Rattle.sre_model.proofs.Terms.{other_ends, scan_price, cost_of, item_cost, branch_cost, most_steps, kept_positions}
use Rattle.sre_model.proofs.Terms.{words_at_place, IsRemembered, looks_at_most, sides, step_bound}
use Rattle.sre_model.specs.Tree.{Branch, Loop, Run, PossessiveLoop, Atomic, Look, Exists, ExistsElse}

-- one window lies inside another
pub record IsInside (a b : Asked) : Type 0 where
  pub order : a.start ≤ a.end
  pub from : b.start ≤ a.start
  pub to : a.end ≤ b.end

-- what a tree costs grows with the range
module _ (e f : ℕ) (wider : e ≤ f) where
  ends_grow : (low high : ℕ) → 1 + other_ends e low high ≤ 1 + other_ends f low high
  ends_grow low high = by (nat_eq high unlimited)
    where
      by : (c : Bool) → 1 + cond c 0 (min high e - low) ≤ 1 + cond c 0 (min high f - low)
      by true = omega arith
      by false = omega (arith, wider)

  scan_grows : (low high : ℕ) → scan_price e low high ≤ scan_price f low high
  scan_grows low high =
      let few : min (counted_to low high) e ≤ min (counted_to low high) f = omega (arith, wider) in omega (arith, few)

  run_grows : (low high b : ℕ) → (1 + other_ends e low high) * (b + 2) + scan_price e low high
      ≤ (1 + other_ends f low high) * (b + 2) + scan_price f low high
  run_grows low high b = omega (arith, mul-le-mul_right (b + 2) (ends_grow low high), scan_grows low high)

  mutual
    pub cost_grows : (s : ℕ) (t : Tree) (b : ℕ) → cost_of e s t b ≤ cost_of f s t b
    cost_grows s Empty b = omega arith
    cost_grows s (Then x rest) b = omega (arith, item_grows s x (steps_of rest b), cost_grows s rest b)

    item_grows : (s : ℕ) (x : Item) (b : ℕ) → item_cost e s x b ≤ item_cost f s x b
    item_grows s (Branch ts) b = omega (arith, branch_grows s ts b)
    item_grows s (Loop o low high body) b = omega (arith, cost_grows (loop_slots low high * s) body 1)
    item_grows s (Run PossessiveRun low high t) b = mul-le-mul_left s (omega (arith, scan_grows low high))
    item_grows s (Run kind low high t) b = mul-le-mul_left s (run_grows low high b)
    item_grows s (PossessiveLoop low high body) b = omega (arith, cost_grows 1 body 2)
    item_grows s (Atomic body) b = cost_grows 1 body 2
    item_grows s (Look sign back body) b = cost_grows 1 body 2
    item_grows s (Exists g there) b = cost_grows s there b
    item_grows s (ExistsElse g there absent) b =
        omega (arith, cost_grows s there (1 + b), cost_grows s absent b)
    item_grows s x b = omega arith

    branch_grows : (s : ℕ) (ts : Trees) (b : ℕ) → branch_cost e s ts b ≤ branch_cost f s ts b
    branch_grows s (Only t) b = cost_grows s t (1 + b)
    branch_grows s (Or t ts) b = omega (arith, cost_grows s t (1 + b), branch_grows s ts b)

module _ (places : ℕ) (t : Tree) (a b : Asked) (inside : IsInside a b) where
  positions : kept_positions t a ≤ kept_positions t b
  positions = omega arith

  words : words_at_place t a ≤ words_at_place t b
  words =
      let bits : most_slots t * 2 * kept_positions t a ≤ most_slots t * 2 * kept_positions t b =
      mul-le-mul_left (most_slots t * 2) positions in
      omega arith

  looks : looks_at_most t a ≤ looks_at_most t b
  looks = omega arith

  pub remembered_inside : IsRemembered places t b → IsRemembered places t a
  remembered_inside r = record {
    unmarked = r.unmarked;
    no_reference = r.no_reference;
    slots = r.slots;
    whole = λ many. omega (arith, words, r.whole many);
    room = omega (arith, r.room, mul-le-mul_left places words);
    order = inside.order;
  }

-- so does the number of steps that suffices
module _ (t : Tree) (a b : Asked) (inside : IsInside a b) where
  -- what one position costs
  abbrev at_position : Asked → ℕ
  at_position c = 1 + most_steps t + cost_of c.end 1 t 2 * sides t

  pub bound_inside : step_bound t a ≤ step_bound t b
  bound_inside =
      let costs : cost_of a.end 1 t 2 * sides t ≤ cost_of b.end 1 t 2 * sides t =
      mul-le-mul_right (sides t) (cost_grows a.end b.end inside.to 1 t 2) in
      let long : looks_at_most t a / 8 ≤ looks_at_most t b / 8 = omega (arith, looks 0 t a b inside) in
      let each : at_position a * (1 + looks_at_most t a / 8) ≤ at_position b * (1 + looks_at_most t b / 8) =
      mul-le-mul (omega (arith, costs)) (omega (arith, long)) in
      mul-le-mul (positions 0 t a b inside) (omega (arith, each))
