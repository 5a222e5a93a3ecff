-- What memoized failures pay for at one position is no more than what the tree says: by the instructions of its
-- bytecode, each of which has at most as many failures as its loops have states.
-- That the step bound suffices (`enough` of sre_engine) rests on this.
use Rattle.sre_turns.proofs.Terms.{◌≡◌, ℕ, zero, suc, ◌+◌, ◌-◌, ◌*◌, ◌<◌, ◌≤◌, ◌⊎◌, inl, inr, Bool, true, false, cond}
use Rattle.sre_turns.proofs.Terms.{List, [], ◌∷◌, length, refl, sym, ap, ◌∙◌, subst, arith, nat_eq, mul-le-mul}
use Rattle.sre_turns.proofs.Terms.{mul-le-mul_right, add-mul, map, ◌||◌, ⊤, AllByRecursion, each-weaken, each-both}
use Rattle.sre_turns.proofs.Terms.{Tree, Empty, Then, Item, Trees, Only, Or, PossessiveRun, word, skip, Opcode, Reads}
use Rattle.sre_turns.proofs.Terms.{ReadsItem, ReadsBranch, JumpsTo, WholeItems, until_opcode, Role, steps_of}
use Rattle.sre_turns.proofs.Terms.{other_ends, HasRole, role_here, item_role, item_here, until_role, word_of}
use Rattle.sre_turns.proofs.Terms.{Alternatives, Shorter, Longer, Again, Point, IsAt, LiesIn, LiesInItem, LiesInBranch}
use Rattle.sre_turns.proofs.Terms.{slots, steps, bit_by, bit_toll, end_price, nat_tests, loop_slots, Instruction, eqb}
use Rattle.sre_turns.proofs.Terms.{eqb-true, length-map, All-from_recursion, sum_by-cons, sum_by-le}
use Rattle.sre_turns.proofs.Terms.{length-le_from_distinct_below, list_any, sum_by, each-map, branch_steps, cost_of}
use Rattle.sre_turns.proofs.Terms.{branch_cost, scan_price}
use Rattle.sre_model.specs.Roles.{ToEnd, ToJump, ToLoop}
use Rattle.std.specs.List.{IsDistinct}
use Rattle.sre_chars.specs.declared.constants.SreOpcode.TheVariants as opcode
use Rattle.sre_model.specs.Tree.{Run, Branch, Loop, PossessiveLoop, Atomic, Look, Exists, ExistsElse}
use Rattle.sre_model.specs.TreePrices.{item_cost}
use Rattle.sre_turns.specs.Prices.{branch_in}
use Rattle.sre_turns.proofs.bound.NestedMoves.{begins}
use Rattle.sre_turns.proofs.bound.Prices.{role_there, steps_told, tree_steps, body_steps, body_end, jump_steps}

regrouped : {A B C D : Type 0} → A ⊎ ((B ⊎ C) ⊎ D) → A ⊎ (B ⊎ (C ⊎ D))
regrouped (inl x) = inl x
regrouped (inr (inl (inl x))) = inr (inl x)
regrouped (inr (inl (inr x))) = inr (inr (inl x))
regrouped (inr (inr x)) = inr (inr (inr x))

-- Failures, each of a point under loops: how many of one point there may be, one for each state of its loops and line.
-- `at` is which of these it is.
module _ (ws : List ℕ) (e : ℕ) {A : Type 0} (point : A → Point) (loops : A → List ℕ) (at : A → ℕ) (lines : ℕ)
    (fits : (x : A) → at x < slots ws (loops x) * lines) where
  -- what one pays for
  abbrev pub weight : A → ℕ
  weight x = bit_toll ws e (point x) (loops x)

  -- no two are the same
  abbrev Differs : A → A → Type 0
  Differs x y = point x ≡ point y → loops x ≡ loops y → at x ≡ at y → ⊥

  abbrev pub Distinct : List A → Type 0
  Distinct [] = ⊤
  Distinct (x ∷ xs) = AllByRecursion (λ (y : A). Differs x y) xs × Distinct xs

  -- those of points of some kind pay for no more than n together, on each line
  pub record Costs (In : Point → List ℕ → Type 0) (n : ℕ) : Type 0 where
    pub few : (xs : List A) → AllByRecursion (λ (x : A). In (point x) (loops x)) xs → Distinct xs
        → sum_by weight xs ≤ n * lines

  -- those of fewer points pay for no more
  wider : {P Q : Point → List ℕ → Type 0} {m n : ℕ} → m ≤ n → ((pt : Point) (ks : List ℕ) → Q pt ks → P pt ks)
      → Costs P m → Costs Q n
  wider {P} {Q} l f c = record {
    few = λ xs all d.
        let few = c.few xs
        (each-weaken (λ (x : A). Q (point x) (loops x)) (λ (x : A). P (point x) (loops x))
        (λ x h. f (point x) (loops x) h) xs all) d in
        omega (arith, few, mul-le-mul_right lines l);
  }

  -- what holds of a point holds of one that is the same
  same_point : (P : Point → List ℕ → Type 0) {at pt : Point} {js ks : List ℕ} → IsAt at js pt ks → P at js → P pt ks
  same_point P {at} {pt} {js} {ks} y h = subst (λ l. P pt l) (sym y.1) (subst (λ q. P q js) (sym y.0) h)

  -- so many of which each pays for so much
  sum_few : (m : ℕ) (xs : List A) → AllByRecursion (λ (x : A). weight x ≤ m) xs → sum_by weight xs ≤ length xs * m
  sum_few m xs all = sum_by-le weight m xs (All-from_recursion (λ (x : A). weight x ≤ m) xs all)

  -- of points that cost nothing
  free : {P : Point → List ℕ → Type 0} → ((pt : Point) (ks : List ℕ) → P pt ks → bit_toll ws e pt ks ≡ 0) → Costs P 0
  free {P} f = record {
    few = λ xs all d.
        let none = sum_few 0 xs (each-weaken (λ (x : A). P (point x) (loops x)) (λ (x : A). weight x ≤ 0)
        (λ x h. omega (arith, f (point x) (loops x) h)) xs all) in
        omega (arith, none);
  }

  free_at : (q : Point) {pt : Point} {js ks : List ℕ} → IsAt q js pt ks → bit_toll ws e q js ≡ 0
      → bit_toll ws e pt ks ≡ 0
  free_at q y none = same_point (λ p l. bit_toll ws e p l ≡ 0) y none

  -- of one point: the pigeonhole law
  one : (q : Point) (js : List ℕ) (n : ℕ) → slots ws js * bit_toll ws e q js ≤ n → Costs (λ pt ks. IsAt q js pt ks) n
  unfolding IsDistinct
  one q js n enough = record {
    few = λ xs all d.
        let room : ℕ = slots ws js * lines in
        let long = length-le_from_distinct_below (map at xs) room (numbers xs all d) (below room xs
        (each-weaken Here (λ (x : A). at x < room)
        (λ x h. subst (λ ks. at x < slots ws ks * lines) h.1 (fits x)) xs all)) in
        let each = sum_few (bit_toll ws e q js) xs
        (each-weaken Here (λ (x : A). weight x ≤ bit_toll ws e q js)
        (λ x h. same_point (λ p l. bit_toll ws e p l ≤ bit_toll ws e q js) h (omega arith)) xs all) in
        let rooms : length xs * bit_toll ws e q js ≤ room * bit_toll ws e q js =
        mul-le-mul_right (bit_toll ws e q js) (omega (arith, long, length-map xs at)) in
        let order : slots ws js * lines * bit_toll ws e q js ≡ slots ws js * bit_toll ws e q js * lines = omega arith in
        omega (arith, each, rooms, order, mul-le-mul_right lines enough);
  }
    where
      Here : A → Type 0
      Here x = IsAt q js (point x) (loops x)

      other : (m k : ℕ) → (m ≡ k → ⊥) → eqb m k ≡ false
      other m k unlike = grind (arith, nat_tests)

      numbers : (xs : List A) → AllByRecursion Here xs → Distinct xs → IsDistinct eqb (map at xs)
      numbers [] all d = tt
      numbers (x ∷ xs) all d = (
        each-map (λ (y : A). Here y × Differs x y) (λ k. eqb (at x) k ≡ false) at
            (λ y h. other (at x) (at y) (h.1 (all.0.0 ∙ sym h.0.0) (all.0.1 ∙ sym h.0.1))) xs
            (each-both Here (λ (y : A). Differs x y) xs all.1 d.0),
        numbers xs all.1 d.1,
      )

      below : (m : ℕ) (xs : List A) → AllByRecursion (λ (x : A). at x < m) xs → (k : ℕ)
          → list_any (eqb k) (map at xs) ≡ true → k < m
      below m [] all k h = absurd (cc)
      below m (x ∷ xs) all k h = go (eqb k (at x)) refl h (below m xs all.1 k)
        where
          go : (b : Bool) → eqb k (at x) ≡ b → (b || list_any (eqb k) (map at xs)) ≡ true
              → (list_any (eqb k) (map at xs) ≡ true → k < m) → k < m
          go true same h more = omega (arith, eqb-true k (at x) same, all.0)
          go false same h more = more h

  -- the failures of two kinds
  record Parted (P Q : A → Type 0) (xs : List A) : Type 1 where
    left : List A
    right : List A
    are : AllByRecursion P left × AllByRecursion Q right
    keeps : (R : A → Type 0) → AllByRecursion R xs → AllByRecursion R left × AllByRecursion R right
    distinct : Distinct left × Distinct right
    sum : sum_by weight xs ≡ sum_by weight left + sum_by weight right

  parted : (P Q : A → Type 0) (xs : List A) → AllByRecursion (λ (x : A). P x ⊎ Q x) xs → Distinct xs → Parted P Q xs
  parted P Q [] all d = record {
    left = [];
    right = [];
    are = (tt, tt);
    keeps = λ R h. (h, h);
    distinct = (tt, tt);
    sum = refl;
  }
  parted P Q (x ∷ xs) all d =
      let p : Parted P Q xs = parted P Q xs all.1 d.1 in
      let more = sum_by-cons weight x xs in
      let unlike = p.keeps (λ (y : A). Differs x y) d.0 in
      elim all.0 [
        | inl h ↦ record {
          left = x ∷ p.left;
          right = p.right;
          are = ((h, p.are.0), p.are.1);
          keeps = λ R a. let k = p.keeps R a.1 in ((a.0, k.0), k.1);
          distinct = ((unlike.0, p.distinct.0), p.distinct.1);
          sum = omega (arith, more, sum_by-cons weight x p.left, p.sum);
        }
        | inr h ↦ record {
          left = p.left;
          right = x ∷ p.right;
          are = (p.are.0, (h, p.are.1));
          keeps = λ R a. let k = p.keeps R a.1 in (k.0, (a.0, k.1));
          distinct = (p.distinct.0, (unlike.1, p.distinct.1));
          sum = omega (arith, more, sum_by-cons weight x p.right, p.sum);
        }
      ]

  beside : {P Q : Point → List ℕ → Type 0} {m n : ℕ} → Costs P m → Costs Q n
      → Costs (λ pt ks. P pt ks ⊎ Q pt ks) (m + n)
  beside {P} {Q} {m} {n} c k = record {
    few = λ xs all d.
        let p = parted (λ (x : A). P (point x) (loops x)) (λ (x : A). Q (point x) (loops x)) xs all d in
        let left = c.few p.left p.are.0 p.distinct.0 in
        let right = k.few p.right p.are.1 p.distinct.1 in
        omega (arith, p.sum, left, right, add-mul m n lines);
  }

  -- what a failure pays for at an instruction
  bit_is : (i : ℕ) (f : Role) (ks : List ℕ) → HasRole ws i f → bit_toll ws e (Instruction i) ks ≡ bit_by ws e i ks f
  bit_is i f ks h = ap (λ g. bit_by ws e i ks g) (role_there ws i h.code h.there ∙ h.begins)

  -- an instruction beside others, under loops of so many states
  with_one : {P : Point → List ℕ → Type 0} {m : ℕ} (i : ℕ) (f : Role) (js : List ℕ) (s v : ℕ) → HasRole ws i f
      → s ≡ slots ws js → bit_by ws e i js f ≤ v → Costs P m
      → Costs (λ pt ks. IsAt (Instruction i) js pt ks ⊎ P pt ks) (s * v + m)
  with_one i f js s v h same few others =
      beside (one (Instruction i) js (s * v)
      (subst (λ k. k * bit_toll ws e (Instruction i) js ≤ s * v) same
      (mul-le-mul (omega arith) (omega (arith, bit_is i f js h, few))))) others

  -- one that costs nothing
  with_free : {P : Point → List ℕ → Type 0} {m : ℕ} (i : ℕ) (f : Role) (js : List ℕ) → HasRole ws i f
      → bit_by ws e i js f ≡ 0 → Costs P m → Costs (λ pt ks. IsAt (Instruction i) js pt ks ⊎ P pt ks) m
  with_free i f js h none others =
      wider (omega arith) (λ pt ks y. y)
      (beside (free (λ pt ks y. free_at (Instruction i) y (bit_is i f js h ∙ none))) others)

  -- an alternative costs no more than its tree says, before others that cost no more than so much
  alternative_most : (b : Bool) (q j : ℕ) (t : Tree) → Reads ws (q + 1) (skip ws q - 2) t → JumpsTo ws (skip ws q - 2) j
      → (n k : ℕ) → n ≤ k → cond b 1 (steps ws (q + 1) + 2 + n) ≤ steps_of t (1 + steps ws j) + 2 + k
  alternative_most true q j t r jump n k l = omega arith
  alternative_most false q j t r jump n k l =
      let own = tree_steps ws (q + 1) (skip ws q - 2) t r in
      omega (arith, l, own, ap (λ b. steps_of t b) (jump_steps ws (skip ws q - 2) j jump))

  -- each alternative costs no more than the tree says
  branch_most : (n q j : ℕ) (ts : Trees) → ReadsBranch ws q j ts → branch_in ws n q ≤ branch_steps ts (steps ws j)
  unfolding branch_in
  branch_most zero q j (Only t) r = omega arith
  branch_most zero q j (Or t ts) r = omega arith
  branch_most (suc n) q j (Only t) r =
      omega (arith, alternative_most (nat_eq (word ws q) 0) q j t r.0 r.1 _ 1 (last_one n))
    where
      last_one : (n : ℕ) → branch_in ws n (q + word ws q) ≤ 1
      last_one zero = omega arith
      last_one (suc n) = rw (word_of ws (skip ws q) 0 r.2) (omega arith)
  branch_most (suc n) q j (Or t ts) r =
      let later = branch_most n (skip ws q) j ts r.2 in
      omega (arith, alternative_most (nat_eq (word ws q) 0) q j t r.0 r.1 _ (branch_steps ts (steps ws j)) later)

  -- the ends of a repeat, and its scan
  ends_few : (i j low high b : ℕ) → j ≡ skip ws (i + 1) → word ws (i + 2) ≡ low → word ws (i + 3) ≡ high
      → steps ws j ≡ b
      → (1 + other_ends e (word ws (i + 2)) (word ws (i + 3))) * end_price ws i
      + scan_price e (word ws (i + 2)) (word ws (i + 3)) ≤ (1 + other_ends e low high) * (b + 2) + scan_price e low high
  ends_few i j low high b tail least greatest behind =
      rw (sym behind, tail, least, greatest) (omega arith)

  -- of a possessive one
  end_few : (i j low high b : ℕ) → j ≡ skip ws (i + 1) → word ws (i + 2) ≡ low → word ws (i + 3) ≡ high
      → steps ws j ≡ b
      → end_price ws i + scan_price e (word ws (i + 2)) (word ws (i + 3)) ≤ b + 2 + scan_price e low high
  end_few i j low high b tail least greatest behind =
      rw (sym behind, tail, least, greatest) (omega arith)

  -- the states of a loop's body
  more_states : (i low high s : ℕ) (js : List ℕ) → s ≡ slots ws js → word ws (i + 2) ≡ low → word ws (i + 3) ≡ high
      → loop_slots low high * s ≡ slots ws (i ∷ js)
  more_states i low high s js same least greatest = rw (same, sym least, sym greatest) refl

  -- of an item's own instruction beside others
  own : {P : Point → List ℕ → Type 0} {m : ℕ} (i j : ℕ) (x : Item) (r : ReadsItem ws i j x) (js : List ℕ) (s v : ℕ)
      → s ≡ slots ws js → bit_by ws e i js (item_role x) ≤ v → Costs P m
      → Costs (λ pt ks. IsAt (Instruction i) js pt ks ⊎ P pt ks) (s * v + m)
  own i j x r js s v same few others = with_one i (item_role x) js s v (item_here ws i j x r) same few others

  -- the further ends of a repeat, and alternatives, have no failures of their own
  ends_free : (i j : ℕ) (js : List ℕ) (Rest : Point → List ℕ → Type 0) (n : ℕ) → Costs Rest n
      → Costs (λ pt ks. (((k : ℕ) × IsAt (Shorter j k) js pt ks) ⊎ ((m : ℕ) × IsAt (Longer i m) js pt ks))
      ⊎ Rest pt ks) n
  ends_free i j js Rest n rest =
      wider (omega arith) (λ pt ks y. y)
      (beside (free (λ pt ks y. elim y [
        | inl z ↦ free_at (Shorter j z.0) z.1 refl
        | inr z ↦ free_at (Longer i z.0) z.1 refl
      ])) rest)

  alternatives_free : (p q : ℕ) (js : List ℕ)
      → Costs (λ pt ks. IsAt (Alternatives p) js pt ks ⊎ IsAt (Alternatives q) js pt ks) 0
  alternatives_free p q js =
      free (λ pt ks y. elim y [
        | inl z ↦ free_at (Alternatives p) z refl
        | inr z ↦ free_at (Alternatives q) z refl
      ])

  -- what those of some points pay for, with those of what follows, which begins at an address
  abbrev Before : (Point → List ℕ → Type 0) → ℕ → List ℕ → ℕ → Type 1
  Before In j js c =
      (Rest : Point → List ℕ → Type 0) (n : ℕ) → Costs Rest n → Rest (Instruction j) js
      → Costs (λ pt ks. In pt ks ⊎ Rest pt ks) (c + n)

  -- where an instruction is at that address which costs nothing
  ended : (In : Point → List ℕ → Type 0) (j : ℕ) (js : List ℕ) (c : ℕ) (f : Role) → HasRole ws j f
      → bit_by ws e j js f ≡ 0 → Before In j js c → (Rest : Point → List ℕ → Type 0) (n : ℕ) → Costs Rest n
      → Costs (λ pt ks. In pt ks ⊎ Rest pt ks) (c + n)
  ended In j js c f h none tree Rest n rest =
      wider (omega arith) (λ pt ks y. elim y [ inl z ↦ inl z | inr z ↦ inr (inr z) ])
      (tree (λ pt ks. IsAt (Instruction j) js pt ks ⊎ Rest pt ks) n (with_free j f js h none rest)
      (inl (refl, refl)))

  -- as at the end of a body of an atomic scope, and of an alternative
  body_ended : (In : Point → List ℕ → Type 0) (j c : ℕ) → Opcode ws j opcode.SUCCESS
      → (steps ws j ≡ 2 → Before In j [] c) → (Rest : Point → List ℕ → Type 0) (n : ℕ) → Costs Rest n
      → Costs (λ pt ks. In pt ks ⊎ Rest pt ks) (c + n)
  body_ended In j c w tree Rest n rest =
      ended In j [] c ToEnd (role_here ws j opcode.SUCCESS ToEnd w refl) refl (tree (body_end ws j w)) Rest n rest

  jump_ended : (In : Point → List ℕ → Type 0) (k j b : ℕ) (js : List ℕ) (c : ℕ) → JumpsTo ws k j → steps ws j ≡ b
      → (steps ws k ≡ 1 + b → Before In k js c) → (Rest : Point → List ℕ → Type 0) (n : ℕ) → Costs Rest n
      → Costs (λ pt ks. In pt ks ⊎ Rest pt ks) (c + n)
  jump_ended In k j b js c jump behind tree Rest n rest =
      ended In k js c ToJump (role_here ws k opcode.JUMP ToJump jump.0 refl) refl
      (tree (jump_steps ws k j jump ∙ ap (λ n. 1 + n) behind)) Rest n rest

  mutual
    -- of the points of a tree, before b steps under loops of s states, where there are those of what follows
    tree_costs : (i j : ℕ) (t : Tree) (r : Reads ws i j t) (js : List ℕ) (s b : ℕ) → s ≡ slots ws js
        → steps ws j ≡ b → (Rest : Point → List ℕ → Type 0) (n : ℕ) → Costs Rest n → Rest (Instruction j) js
        → Costs (λ pt ks. LiesIn ws i j t r js pt ks ⊎ Rest pt ks) (cost_of e s t b + n)
    tree_costs i j Empty r js s b same behind Rest n rest at =
        wider (omega arith) (λ pt ks y. elim y [ inl z ↦ same_point Rest z at | inr z ↦ z ]) rest
    tree_costs i j (Then x more) r js s b same behind Rest n rest at =
        wider (omega arith)
        (λ pt ks y. elim y [
          | inl (inl z) ↦ inl z
          | inl (inr (inl z)) ↦ inr (inl z)
          | inl (inr (inr z)) ↦ inr (inr (inl z))
          | inr z ↦ inr (inr (inr z))
        ])
        (item_costs i r.0 x r.1 js s (steps_of more b) same
        (tree_steps ws r.0 j more r.2 ∙ ap (λ n. steps_of more n) behind)
        (λ pt ks. LiesIn ws r.0 j more r.2 js pt ks ⊎ Rest pt ks) (cost_of e s more b + n)
        (tree_costs r.0 j more r.2 js s b same behind Rest n rest at) (inl (begins ws r.0 j more r.2 js)))

    item_costs : (i j : ℕ) (x : Item) (r : ReadsItem ws i j x) (js : List ℕ) (s b : ℕ) → s ≡ slots ws js
        → steps ws j ≡ b → (Rest : Point → List ℕ → Type 0) (n : ℕ) → Costs Rest n → Rest (Instruction j) js
        → Costs (λ pt ks. IsAt (Instruction i) js pt ks ⊎ (LiesInItem ws i j x r.1 js pt ks ⊎ Rest pt ks))
        (item_cost e s x b + n)
    item_costs i j (Branch ts) r js s b same behind Rest n rest at =
        let few = branch_most (length ws - (i + 1)) (i + 1) j ts r.1 in
        wider (omega arith) (λ pt ks y. y)
        (own i j (Branch ts) r js s (branch_steps ts b) same
        (subst (λ k. branch_in ws (length ws - (i + 1)) (i + 1) ≤ branch_steps ts k) behind few)
        (branch_costs (i + 1) j ts r.1 js s b same behind Rest n rest))
    item_costs i j (Loop o low high body) r js s b same behind Rest n rest at =
        let u : ℕ = skip ws (i + 1) in
        let end : HasRole ws u (ToLoop o) = role_here ws u (until_opcode o) (ToLoop o) r.1.4 (until_role o) in
        let until : steps ws u ≡ 1 = steps_told ws u (ToLoop o) end in
        let inner = tree_steps ws (i + 4) u body r.1.3 ∙ ap (λ n. steps_of body n) until in
        let tail = ap (λ k. steps ws k) r.1.5 in
        let states = more_states i low high s js same (word_of ws (i + 2) low r.1.0) (word_of ws (i + 3) high r.1.1) in
        wider (omega arith)
        (λ pt ks y. elim y [ inl z ↦ inl z | inr (inl z) ↦ inr (inl z) | inr (inr z) ↦ inr (inr (inr z)) ])
        (own i j (Loop o low high body) r js s (steps_of body 1 + b + 2) same
        (omega (arith, inner, until, tail, behind))
        (tree_costs (i + 4) u body r.1.3 (i ∷ js) (loop_slots low high * s) 1 states until
        (λ pt ks. IsAt (Instruction u) (i ∷ js) pt ks ⊎ Rest pt ks) _
        (with_one u (ToLoop o) (i ∷ js) (loop_slots low high * s) (steps_of body 1 + b + 1) end states
        (omega (arith, inner, tail, behind)) rest) (inl (refl, refl))))
    item_costs i j (Run PossessiveRun low high t) r js s b same behind Rest n rest at =
        own i j (Run PossessiveRun low high t) r js s (b + 2 + scan_price e low high) same
        (end_few i j low high b r.1.0 (word_of ws (i + 2) low r.1.1) (word_of ws (i + 3) high r.1.2) behind)
        (ends_free i j js Rest n rest)
    item_costs i j (Run kind low high t) r js s b same behind Rest n rest at =
        own i j (Run kind low high t) r js s ((1 + other_ends e low high) * (b + 2) + scan_price e low high) same
        (ends_few i j low high b r.1.0 (word_of ws (i + 2) low r.1.1) (word_of ws (i + 3) high r.1.2) behind)
        (ends_free i j js Rest n rest)
    item_costs i j (PossessiveLoop low high body) r js s b same behind Rest n rest at =
        let u : ℕ = skip ws (i + 1) in
        let v : ℕ = steps_of body 2 + b + 1 in
        let states = more_states i low high s js same (word_of ws (i + 2) low r.1.0) (word_of ws (i + 3) high r.1.1) in
        let few : bit_toll ws e Again (i ∷ js) ≤ v =
        omega (arith, body_steps ws (i + 4) u body r.1.3 r.1.4, ap (λ k. steps ws k) r.1.5, behind) in
        wider (omega arith) (λ pt ks y. regrouped y)
        (own i j (PossessiveLoop low high body) r js s 1 same (omega arith)
        (beside (one Again (i ∷ js) (loop_slots low high * s * v)
        (subst (λ k. k * bit_toll ws e Again (i ∷ js) ≤ loop_slots low high * s * v) states
        (mul-le-mul (omega arith) few)))
        (body_ended _ u _ r.1.4 (tree_costs (i + 4) u body r.1.3 [] 1 2 refl) Rest n rest)))
    item_costs i j (Atomic body) r js s b same behind Rest n rest at =
        with_free i _ js (item_here ws i j (Atomic body) r) refl
        (body_ended _ (j - 1) _ r.1.2 (tree_costs (i + 2) (j - 1) body r.1.1 [] 1 2 refl) Rest n rest)
    item_costs i j (Look sign back body) r js s b same behind Rest n rest at =
        with_free i _ js (item_here ws i j (Look sign back body) r) refl
        (body_ended _ (j - 1) _ r.1.3 (tree_costs (i + 3) (j - 1) body r.1.2 [] 1 2 refl) Rest n rest)
    item_costs i j (Exists g there) r js s b same behind Rest n rest at =
        with_free i _ js (item_here ws i j (Exists g there) r) refl
        (tree_costs (i + 3) j there r.1.2 js s b same behind Rest n rest at)
    item_costs i j (ExistsElse g there absent) r js s b same behind Rest n rest at =
        let k : ℕ = i + 1 + word ws (i + 2) in
        wider (omega arith) (λ pt ks y. regrouped y)
        (with_free i _ js (item_here ws i j (ExistsElse g there absent) r) refl
        (jump_ended _ (k - 2) j b js _ r.1.2 behind (tree_costs (i + 3) (k - 2) there r.1.1 js s (1 + b) same)
        (λ pt ks. LiesIn ws k j absent r.1.3 js pt ks ⊎ Rest pt ks) _
        (tree_costs k j absent r.1.3 js s b same behind Rest n rest at)))
    -- an item that has no points behind its own
    item_costs i j x r js s b same behind Rest n rest at =
        with_free i (item_role x) js (item_here ws i j x r) refl
        (wider (omega arith) (λ pt ks y. elim y [ inl z ↦ absurd z | inr z ↦ z ]) rest)

    branch_costs : (q j : ℕ) (ts : Trees) (r : ReadsBranch ws q j ts) (js : List ℕ) (s b : ℕ) → s ≡ slots ws js
        → steps ws j ≡ b → (Rest : Point → List ℕ → Type 0) (n : ℕ) → Costs Rest n
        → Costs (λ pt ks. LiesInBranch ws q j ts r js pt ks ⊎ Rest pt ks) (branch_cost e s ts b + n)
    branch_costs q j (Only t) r js s b same behind Rest n rest =
        wider (omega arith)
        (λ pt ks y. elim y [
          | inl (inl z) ↦ inl (inl z)
          | inl (inr (inl z)) ↦ inr (inl z)
          | inl (inr (inr z)) ↦ inl (inr z)
          | inr z ↦ inr (inr z)
        ])
        (beside (alternatives_free q (skip ws q) js)
        (jump_ended _ (skip ws q - 2) j b js _ r.1 behind
        (tree_costs (q + 1) (skip ws q - 2) t r.0 js s (1 + b) same) Rest n rest))
    branch_costs q j (Or t ts) r js s b same behind Rest n rest =
        wider (omega arith)
        (λ pt ks y. elim y [
          | inl (inl z) ↦ inl (inl z)
          | inl (inr (inl z)) ↦ inr (inl z)
          | inl (inr (inr z)) ↦ inr (inr (inl z))
          | inr z ↦ inr (inr (inr z))
        ])
        (beside (alternatives_free q q js)
        (jump_ended _ (skip ws q - 2) j b js _ r.1 behind
        (tree_costs (q + 1) (skip ws q - 2) t r.0 js s (1 + b) same)
        (λ pt ks. LiesInBranch ws (skip ws q) j ts r.2 js pt ks ⊎ Rest pt ks) _
        (branch_costs (skip ws q) j ts r.2 js s b same behind Rest n rest)))

  -- so of the points of a whole
  pub whole_costs : (t : Tree) (w : WholeItems ws t)
      → Costs (λ pt ks. LiesIn ws 0 (length ws - 1) t w.0 [] pt ks) (cost_of e 1 t 2)
  whole_costs t w =
      wider (omega arith) (λ pt ks y. inl y)
      (body_ended _ (length ws - 1) _ w.1 (tree_costs 0 (length ws - 1) t w.0 [] 1 2 refl) (λ pt ks. ⊥) 0
      (free (λ pt ks y. absurd y)))
