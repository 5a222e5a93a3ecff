-- Prices: numbers that saturate, how prices add up, and what is computed of items.
use Rattle.sre_code.proofs.Terms.{ℕ, ◌+◌, ◌-◌, ◌*◌, ◌/◌, ◌^◌, ◌≡◌, ◌<◌, ◌≤◌, ◌⊎◌, inl, inr, max, min, sym, ap, ◌∙◌}
use Rattle.sre_code.proofs.Terms.{arith, nat_le, mul-le-mul_left, nat_tests, room_by, Held, Bool, true, false, ◌&&◌}
use Rattle.sre_code.proofs.Terms.{cond, refl, Tree, Item, Order, Test, RunKind, loop_slots, steps_of, item_steps}
use Rattle.sre_code.proofs.Terms.{cost_of, item_cost, steps_at, cost_at, IsPrice, IsItemPrice, joined, straight_price}
use Rattle.sre_code.proofs.Terms.{closed_price, run_price, loop_price, possessive_price, Price, List, Option, Some}
use Rattle.sre_code.proofs.Terms.{None, subst, true≢false, Sign, GreedyRun, LazyRun, PossessiveRun, Operands, ReadsItem}
use Rattle.sre_code.proofs.Terms.{Role, of_item, refers, by_references, HasRole, item_here, own_words, Behind, IsHeld}
use Rattle.sre_code.proofs.Terms.{ItemPriced, kind_of, PricedBy, PricedAt, PricedItem, mul-le-mul_right, scan_price}
use Rattle.sre_code.proofs.Terms.{item_role}
use Rattle.sre_model.specs.Tree.{Fail, Loop, Run, PossessiveLoop, Atomic, One, At, Mark, Branch, Look}
use Rattle.sre_code.specs.Prices.{run_ends, StraightPriced, RunPriced}
use Rattle.sre_code.proofs.Walking.{role_behind, one_behind}

-- Numbers that saturate at 64 bits, and what they come to.

pub held_same : (x : ℕ) → x < 2 ^ 64 → Held x x
held_same x lt = record { is = omega arith }

pub held_plus : (x y r q u : ℕ) → Held x r → Held y q → u ≡ min (r + q) (2 ^ 64 - 1) → Held (x + y) u
held_plus x y r q u h k e = record { is = omega (arith, h.is, k.is, e) }

pub held_max : (x y r q : ℕ) → Held x r → Held y q → Held (max x y) (max r q)
held_max x y r q h k = record { is = omega (arith, h.is, k.is) }

-- zero, one or more
some_or_none : (n : ℕ) → (n ≡ 0) ⊎ (1 ≤ n)
some_or_none n = grind arith

above_or_within : (x m : ℕ) → (x ≤ m) ⊎ (m ≤ x)
above_or_within x m = grind arith

above_first : (m x y : ℕ) → m ≤ x → 1 ≤ y → m ≤ x * y
above_first m x y l k = omega (arith, mul-le-mul_left x k)

above_second : (m x y : ℕ) → m ≤ y → 1 ≤ x → m ≤ x * y
above_second m x y l k = omega (arith, mul-le-mul_right y k)

both_above : (m a b : ℕ) → m ≤ a → m ≤ b → min a m ≡ min b m
both_above m a b l k = omega arith

zero_first : (m q y : ℕ) → min (0 * q) m ≡ min (0 * y) m
zero_first m q y = omega arith

zero_second : (m q x : ℕ) → min (q * 0) m ≡ min (x * 0) m
zero_second m q x = omega arith

times_by : (m x y : ℕ) → 1 ≤ m → (x ≤ m) ⊎ (m ≤ x) → (y ≤ m) ⊎ (m ≤ y) → (x ≡ 0) ⊎ (1 ≤ x) → (y ≡ 0) ⊎ (1 ≤ y)
    → min (min x m * min y m) m ≡ min (x * y) m
times_by m x y some (inl a) (inl b) p q =
    let xs : min x m ≡ x = omega arith in
    let ys : min y m ≡ y = omega arith in
    ap (λ z. min (z * min y m) m) xs ∙ ap (λ z. min (x * z) m) ys
times_by m x y some a b (inl p) q =
    let none : min x m ≡ 0 = omega arith in
    ap (λ z. min (z * min y m) m) none ∙ zero_first m (min y m) y ∙ ap (λ z. min (z * y) m) (sym p)
times_by m x y some a b (inr p) (inl q) =
    let none : min y m ≡ 0 = omega arith in
    ap (λ z. min (min x m * z) m) none ∙ zero_second m (min x m) x ∙ ap (λ z. min (x * z) m) (sym q)
times_by m x y some (inr a) b (inr p) (inr q) =
    both_above m (min x m * min y m) (x * y) (above_first m (min x m) (min y m) (omega arith) (omega arith))
    (above_first m x y a q)
times_by m x y some a (inr b) (inr p) (inr q) =
    both_above m (min x m * min y m) (x * y) (above_second m (min x m) (min y m) (omega arith) (omega arith))
    (above_second m x y b p)

pub held_times : (x y r q u : ℕ) → Held x r → Held y q → u ≡ min (r * q) (2 ^ 64 - 1) → Held (x * y) u
held_times x y r q u h k e =
    let m : ℕ = 2 ^ 64 - 1 in
    record {
      is =
          e ∙ ap (λ z. min (z * q) m) h.is ∙ ap (λ z. min (min x m * z) m) k.is
          ∙ times_by m x y (omega arith) (above_or_within x m) (above_or_within y m) (some_or_none x) (some_or_none y);
    }

same_test : (a b n : ℕ) → (a ≤ n → b ≤ n) → (b ≤ n → a ≤ n) → nat_le a n ≡ nat_le b n
same_test a b n f g = grind (arith, nat_tests)

-- there is room by what is held where there is
pub room_test : (p f s bits words : ℕ) → Held (s * 2 * f) bits → words ≡ min (p * (bits / 64 + 1)) (2 ^ 64 - 1)
    → nat_le words (2 ^ 30) ≡ nat_le (room_by p f s) (2 ^ 30)
room_test p f s bits words h e = by (above_or_within (s * 2 * f) (2 ^ 64 - 1)) (some_or_none p)
  where
    by : (s * 2 * f ≤ 2 ^ 64 - 1) ⊎ (2 ^ 64 - 1 ≤ s * 2 * f) → (p ≡ 0) ⊎ (1 ≤ p)
        → nat_le words (2 ^ 30) ≡ nat_le (room_by p f s) (2 ^ 30)
    by (inl a) q =
        let same : bits ≡ s * 2 * f = omega (arith, h.is) in
        let all : words ≡ min (p * (s * 2 * f / 64 + 1)) (2 ^ 64 - 1) =
        e ∙ ap (λ z. min (p * (z / 64 + 1)) (2 ^ 64 - 1)) same in
        same_test words (room_by p f s) (2 ^ 30) (held_few (room_by p f s) words all)
        (held_more (room_by p f s) words all)
      where
        held_few : (x r : ℕ) → r ≡ min x (2 ^ 64 - 1) → r ≤ 2 ^ 30 → x ≤ 2 ^ 30
        held_few x r e l = omega arith

        held_more : (x r : ℕ) → r ≡ min x (2 ^ 64 - 1) → x ≤ 2 ^ 30 → r ≤ 2 ^ 30
        held_more x r e l = omega arith
    by (inr a) (inl q) =
        let none : words ≡ min (0 * (bits / 64 + 1)) (2 ^ 64 - 1) =
        e ∙ ap (λ z. min (z * (bits / 64 + 1)) (2 ^ 64 - 1)) q in
        let not : room_by p f s ≡ 0 * (s * 2 * f / 64 + 1) = ap (λ z. room_by z f s) q in
        same_test words (room_by p f s) (2 ^ 30) (λ l. omega (arith, not)) (λ l. omega (arith, none))
    by (inr a) (inr q) =
        let held : bits ≡ 2 ^ 64 - 1 = omega (arith, h.is) in
        let far : 2 ^ 40 ≤ p * (bits / 64 + 1) = above_second (2 ^ 40) p (bits / 64 + 1) (omega arith) q in
        let further : 2 ^ 40 ≤ room_by p f s = above_second (2 ^ 40) p (s * 2 * f / 64 + 1) (omega arith) q in
        same_test words (room_by p f s) (2 ^ 30) (λ l. absurd (omega (arith, e, far)))
        (λ l. absurd (omega (arith, further)))

-- Prices add up to what the specification says that trees cost.

-- items, and others behind them
steps_by : (m n b : ℕ) (p q : Bool) → m + cond p (n + cond q b 0) 0 ≡ m + cond p n 0 + cond (p && q) b 0
steps_by m n b true true = omega arith
steps_by m n b true false = omega arith
steps_by m n b false q = omega arith

cost_by : (c k n d f b : ℕ) (q : Bool) → c + k * (n + cond q b 0) + (d + f * b) ≡ c + k * n + d + (f + cond q k 0) * b
cost_by c k n d f b true = omega arith
cost_by c k n d f b false = omega arith

pub joined_steps : (x y : Price) (b : ℕ) → steps_at x (steps_at y b) ≡ steps_at (joined x y) b
joined_steps x y b = steps_by x.steps y.steps b x.is_open y.is_open

pub joined_cost : (x y : Price) (b : ℕ) → cost_at x (steps_at y b) + cost_at y b ≡ cost_at (joined x y) b
joined_cost x y b = cost_by x.cost x.each y.steps y.cost y.each b y.is_open

-- what takes one step, and what ends all others
pub one_step_price : (e : ℕ) (x : Item) → ((b : ℕ) → item_steps x b ≡ 1 + b) → ((s b : ℕ) → item_cost e s x b ≡ 0)
    → IsItemPrice e x (straight_price 1)
one_step_price e x steps cost = record { steps = steps; cost = λ s b. omega (arith, cost s b) }

pub fail_price : (e : ℕ) → IsItemPrice e Fail (closed_price 0 0 0)
fail_price e = record { steps = λ b. refl; cost = λ s b. omega arith }

-- a repeat of one character, by how many ends it has, and by its scan
pub run_priced : (e low high : ℕ) (kind : RunKind) (t : Test) (n m : ℕ)
    → ((s b : ℕ) → item_cost e s (Run kind low high t) b ≡ s * (n * (b + 2) + m))
    → IsItemPrice e (Run kind low high t) (run_price n m)
run_priced e low high kind t n m is = record { steps = λ b. refl; cost = λ s b. omega (arith, is s b) }

module _ (e : ℕ) (body : Tree) (x : Price) (is : IsPrice e body x) where
  pub loop_priced : (o : Order) (low high : ℕ)
      → IsItemPrice e (Loop o low high body) (loop_price (loop_slots low high) x)
  loop_priced o low high = record {
    steps = λ b. refl;
    cost = λ s b.
        of (loop_slots low high) s b (steps_of body 1) (steps_at x 1) (cost_at x 1) x.apart
        (cost_of e (loop_slots low high * s) body 1) (is.steps 1) (is.cost (loop_slots low high * s) 1);
  }
    where
      of : (n s b m k c a d : ℕ) → m ≡ k → d ≡ n * s * c + a
          → s * (m + b + 2) + n * s * (m + b + 1) + d ≡ s * (n * (c + k + 1) + k + 2 + (n + 1) * b) + a
      of n s b m k c a d h i = rw (h, i) (omega arith)

  pub possessive_priced : (low high : ℕ)
      → IsItemPrice e (PossessiveLoop low high body) (possessive_price (loop_slots low high) x)
  possessive_priced low high = record {
    steps = λ b. refl;
    cost = λ s b.
        of (loop_slots low high) s b (steps_of body 2) (steps_at x 2) (cost_at x 2) x.apart (cost_of e 1 body 2)
        (is.steps 2) (is.cost 1 2);
  }
    where
      of : (n s b m k c a d : ℕ) → m ≡ k → d ≡ 1 * c + a
          → s * 1 + n * s * (m + b + 1) + d ≡ s * (n * (k + 1) + 1 + n * b) + (c + a)
      of n s b m k c a d h i = rw (h, i) (omega arith)

-- What is computed of items, one after the other, and of the alternatives of a branch, are the prices of their trees.

-- small numbers are held as they are
pub held_straight : (n : ℕ) → n < 2 ^ 64 → IsHeld (straight_price n) (straight_price n)
held_straight n few = record {
  steps = held_same n few;
  is_open = refl;
  cost = held_same 0 (omega arith);
  each = held_same 0 (omega arith);
  apart = held_same 0 (omega arith);
}

pub held_closed : (c k a x y z : ℕ) → Held c x → Held k y → Held a z → IsHeld (closed_price c k a) (closed_price x y z)
held_closed c k a x y z cost each apart =
    record { steps = held_same 1 (omega arith); is_open = refl; cost = cost; each = each; apart = apart }

module _ (e depth : ℕ) (ws : List ℕ) where
  module _ (i : ℕ) where
    -- an item of one step
    straight : (x : Item) (j : ℕ) (r : Option PricedItem) → Behind ws i j → ((b : ℕ) → item_steps x b ≡ 1 + b)
        → ((s b : ℕ) → item_cost e s x b ≡ 0) → StraightPriced ws i r → ItemPriced e depth x j r
    straight x j (Some p) h steps cost told = (
      one_behind ws i p.behind j told.0 h,
      (
        straight_price 1,
        one_step_price e x steps cost,
        subst (IsHeld (straight_price 1)) (sym told.1) (held_straight 1 (omega arith)),
      ),
    )
    straight x j None h steps cost told = absurd (told.none j h)

    two_words : (j : ℕ) (o : Role) → HasRole ws i o → own_words o ≡ Some 2 → j ≡ i + 2 → Behind ws i j
    two_words j o h has is = subst (Behind ws i) (sym is) (role_behind ws i 2 o h has)

    -- what has just this price
    just : (x : Item) (j : ℕ) (y : Price) (r : Option PricedItem) → IsItemPrice e x y → IsHeld y y
        → r ≡ Some (record { behind = j; price = y }) → ItemPriced e depth x j r
    just x j y r is held same = subst (ItemPriced e depth x j) (sym same) (refl, (y, is, held))

    repeat : (low high j : ℕ) (kind : RunKind) (t : Test) (possessive : Bool) (r : Option PricedItem)
        → Operands ws i j (Run kind low high t) → RunPriced e possessive ws i r
        → ((s b : ℕ) → item_cost e s (Run kind low high t) b
        ≡ s * (run_ends e possessive low high * (b + 2) + scan_price e low high))
        → ItemPriced e depth (Run kind low high t) j r
    repeat low high j kind t possessive r w told is =
        let n : ℕ = run_ends e possessive low high in
        let m : ℕ = scan_price e low high in
        let priced = told.each low high w.1 w.2 in
        let few : n ≤ 2 ^ 32 = priced.0 in
        let short : m < 2 ^ 32 = priced.1 in
        just (Run kind low high t) j (run_price n m) r (run_priced e low high kind t n m is)
        (held_closed (n * 2 + m) n 0 (n * 2 + m) n 0 (held_same (n * 2 + m) (omega (arith, few, short)))
        (held_same n (omega (arith, few))) (held_same 0 (omega arith)))
        (priced.2 ∙ ap (λ k. Some (record { behind = k; price = run_price n m })) (sym w.0))

    look : (sign : Sign) (back : ℕ) (body : Tree) (j : ℕ) (r : Option PricedItem) → ItemPriced e depth (Atomic body) j r
        → ItemPriced e depth (Look sign back body) j r
    look sign back body j (Some p) told =
        (told.0, (told.1.0, record { steps = told.1.1.steps; cost = told.1.1.cost }, told.1.2))
    look sign back body j None told = told

    referring : (r : Option PricedItem) (x : Item) (j : ℕ) → true ≡ false → ItemPriced e depth x j r
    referring r x j refers = absurd (true≢false refers)

    priced : (x : Item) (j : ℕ) (r : Option PricedItem) → ReadsItem ws i j x → of_item by_references x ≡ false
        → PricedBy (kind_of (item_role x)) e depth ws i r → ItemPriced e depth x j r
    priced Fail j r w plain told =
        just Fail j (closed_price 0 0 0) r (fail_price e)
        (held_closed 0 0 0 0 0 0 (held_same 0 (omega arith)) (held_same 0 (omega arith)) (held_same 0 (omega arith)))
        (told.is ∙ ap (λ k. Some (record { behind = k; price = closed_price 0 0 0 })) (sym w.1))
    priced (One t) j r w plain told =
        straight (One t) j r (record { one = inl (t, w) }) (λ b. refl) (λ s b. refl) told
    priced (At a) j r w plain told =
        straight (At a) j r (two_words j _ (item_here ws i j (At a) w) refl w.1.1) (λ b. refl) (λ s b. refl) told
    priced (Mark n) j r w plain told =
        straight (Mark n) j r (two_words j _ (item_here ws i j (Mark n) w) refl w.1.1) (λ b. refl) (λ s b. refl) told
    priced (Branch ts) j r w plain told = told.each ts j w.1 plain
    priced (Loop o low high body) j r w plain told = told.each o low high body j w.1 plain
    priced (Run GreedyRun low high t) j r w plain told = repeat low high j GreedyRun t false r w.1 told (λ s b. refl)
    priced (Run LazyRun low high t) j r w plain told = repeat low high j LazyRun t false r w.1 told (λ s b. refl)
    priced (Run PossessiveRun low high t) j r w plain told =
        repeat low high j PossessiveRun t true r w.1 told (λ s b. omega arith)
    priced (PossessiveLoop low high body) j r w plain told = told.each low high body j w.1 plain
    priced (Atomic body) j r w plain told = told.each body j w.1.0 w.1.1 plain
    priced (Look sign back body) j r w plain told = look sign back body j r (told.each body j w.1.0 w.1.2 plain)
    priced x j r w plain told = referring r x j plain

    -- what is told of an instruction is told of the item that it begins
    pub item_priced : (x : Item) (j : ℕ) (r : Option PricedItem) → ReadsItem ws i j x
        → of_item by_references x ≡ false → PricedAt e depth ws i r → ItemPriced e depth x j r
    item_priced x j r w plain told =
        let h = item_here ws i j x w in
        priced x j r w plain
        (subst (λ z. PricedBy z e depth ws i r) (ap kind_of h.begins) (told.by h.code h.there))
