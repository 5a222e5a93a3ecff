-- A scan of items, and of the alternatives of a branch, computes the prices of their trees.
use Rattle.sre_code.proofs.Terms.{ℕ, ◌+◌, ◌-◌, ◌*◌, ◌≡◌, ◌<◌, ◌≤◌, ◌⊎◌, inl, inr, Bool, true, false, cond, max, List}
use Rattle.sre_code.proofs.Terms.{length, Option, Some, None, refl, sym, ap, ◌∙◌, subst, arith, or_parts, le-max_right}
use Rattle.sre_code.proofs.Terms.{Tree, Empty, Then, Trees, Only, Or, SreOpcode, Word, word, skip, Opcode, Reads}
use Rattle.sre_code.proofs.Terms.{ReadsBranch, role, of_item, of_branch, refers, by_references, nesting, loop_slots}
use Rattle.sre_code.proofs.Terms.{steps_of, item_steps, cost_of, item_cost, most_steps, reads_within, operands_past}
use Rattle.sre_code.proofs.Terms.{alternative_long, word_of, word_within, same_opcode, steps_at, cost_at, IsPrice}
use Rattle.sre_code.proofs.Terms.{IsHeld, AreHeld, joined, straight_price, closed_price, loop_price, possessive_price}
use Rattle.sre_code.proofs.Terms.{TreePriced, BodyPriced, ItemPriced, kind_of, PricedBy, PricedAt, Price, Prices}
use Rattle.sre_code.proofs.Terms.{PricedItem, Kind, le-max_left, branch_steps, branch_cost, passed}
use Rattle.sre_model.specs.Tree.{Branch}
use Rattle.std.proofs.lemmas.List.{get_or_past}
use Rattle.sre_model.specs.Nesting.{by_nesting}
use Rattle.sre_code.specs.Prices.{with_alternative, ArePriced, InsidePriced, LoopPriced, PossessivePriced, BranchPriced}
use Rattle.sre_code.proofs.PricedItems.{held_same, joined_steps, joined_cost, loop_priced, possessive_priced}
use Rattle.sre_code.proofs.PricedItems.{held_straight, item_priced}
use Rattle.sre_code.proofs.Scanning.{same_slots}

-- items of which some are passed, whose prices are these; the tree of the rest
pub record Left (e : ℕ) (ws : List ℕ) (i j : ℕ) (t : Tree) (p : Prices) (rest : Tree) : Type 0 where
  pub exact : Prices
  pub reads : Reads ws i j rest
  pub plain : refers rest ≡ false
  pub held : AreHeld exact p
  pub steps : (b : ℕ) → steps_of t b ≡ steps_at exact.all (steps_of rest b)
  pub cost :
      (s b : ℕ)
      → cost_of e s t b ≡ s * cost_at exact.all (steps_of rest b) + exact.all.apart + cost_of e s rest b
  pub most : most_steps t ≡ max (max (exact.since + steps_of rest 2) exact.most) (most_steps rest)
  pub nested : nesting rest ≤ nesting t

-- what is passed of the items from start up to j, whatever tree they have
pub record Onto (e : ℕ) (ws : List ℕ) (start j i : ℕ) (p : Prices) : Type 0 where
  pub each : (t : Tree) → Reads ws start j t → refers t ≡ false → (rest : Tree) × Left e ws i j t p rest

-- the first stretch is one of all
first_stretch : (t : Tree) → steps_of t 2 ≤ most_steps t
first_stretch Empty = omega arith
first_stretch (Then x t) = le-max_left (steps_of (Then x t) 2) (most_steps t)

-- a stretch goes on, or ends
stretch : (n m k b r : ℕ) (q : Bool) → b ≤ r
    → max (max (n + (k + cond q b 0)) m) (max (k + cond q b 0) r)
    ≡ max (max (cond q (n + k) 0 + b) (cond q m (max (n + k) m))) r
stretch n m k b r true l = omega (arith, l)
stretch n m k b r false l = omega (arith, l)

-- what is passed costs what it did, and what the next item does
adds : (total s before a next rest own apart both : ℕ) → total ≡ s * before + a + (next + rest) → next ≡ s * own + apart
    → before + own ≡ both → total ≡ s * both + (a + apart) + rest
adds total s before a next rest own apart both is item sum =
    subst (λ c. total ≡ s * c + (a + apart) + rest) sum (omega (arith, is, item))

module _ (e depth : ℕ) (ws : List ℕ) (start j : ℕ) where
  pub onto_start : Onto e ws start j start (record { all = straight_price 0; most = 0; since = 0 })
  onto_start = record {
    each = λ t w plain. (
      t,
      record {
        exact = record { all = straight_price 0; most = 0; since = 0 };
        reads = w;
        plain = plain;
        held = record {
          all = held_straight 0 (omega arith);
          most = held_same 0 (omega arith);
          since = held_same 0 (omega arith);
        };
        steps = λ b. omega arith;
        cost = λ s b. omega arith;
        most = omega (arith, first_stretch t);
        nested = omega arith;
      },
    );
  }

  -- a further item
  pub onto_next : (i : ℕ) (p q : Prices) (r : PricedItem) → Onto e ws start j i p → i < j
      → PricedAt e depth ws i (Some r)
      → ((x : Prices) (y : Price) → AreHeld x p → IsHeld y r.price → AreHeld (passed x y) q)
      → Onto e ws start j r.behind q
  onto_next i p q r o lt told holds =
      record { each = λ t w plain. let l = o.each t w plain in by t l.0 l.1 }
    where
      by : (t rest : Tree) → Left e ws i j t p rest → (u : Tree) × Left e ws r.behind j t q u
      by t Empty l = absurd (omega (arith, lt, l.reads))
      by t (Then x u) l =
          let both = or_parts (of_item by_references x) (refers u) l.plain in
          let item = item_priced e depth ws i x l.reads.0 (Some r) l.reads.1 both.0 told in
          let z : Price = item.1.0 in
          let is = item.1.1 in
          let old : Price = l.exact.all in (
            u,
            record {
              exact = passed l.exact z;
              reads = subst (λ k. Reads ws k j u) (sym item.0) l.reads.2;
              plain = both.1;
              held = holds l.exact z l.held item.1.2;
              steps = λ b.
                  l.steps b ∙ ap (steps_at old) (is.steps (steps_of u b)) ∙ joined_steps old z (steps_of u b);
              cost = λ s b.
                  adds (cost_of e s t b) s (cost_at old (item_steps x (steps_of u b))) old.apart
                  (item_cost e s x (steps_of u b)) (cost_of e s u b) (cost_at z (steps_of u b)) z.apart
                  (cost_at (joined old z) (steps_of u b)) (l.cost s b) (is.cost s (steps_of u b))
                  (ap (λ n. cost_at old n + cost_at z (steps_of u b)) (is.steps (steps_of u b))
                  ∙ joined_cost old z (steps_of u b));
              most =
                  l.most
                  ∙ ap (λ n. max (max (l.exact.since + n) l.exact.most) (max n (most_steps u)))
                  (is.steps (steps_of u 2))
                  ∙ stretch l.exact.since l.exact.most z.steps (steps_of u 2) (most_steps u) z.is_open
                  (first_stretch u);
              nested = omega (arith, l.nested, le-max_right (of_item by_nesting x) (nesting u));
            },
          )

  -- one that is nested too deep
  pub scan_stops : (i : ℕ) (p : Prices) → Onto e ws start j i p → i < j → PricedAt e depth ws i None
      → ArePriced e depth ws start j None
  scan_stops i p o lt told = record { each = λ t w plain. let l = o.each t w plain in by t l.0 l.1 }
    where
      by : (t rest : Tree) → Left e ws i j t p rest → depth < nesting t
      by t Empty l = absurd (omega (arith, lt, l.reads))
      by t (Then x u) l =
          let both = or_parts (of_item by_references x) (refers u) l.plain in
          let deep : depth < of_item by_nesting x =
          item_priced e depth ws i x l.reads.0 None l.reads.1 both.0 told in
          omega (arith, deep, l.nested, le-max_left (of_item by_nesting x) (nesting u))

  pub scan_ends : (i : ℕ) (p : Prices) → Onto e ws start j i p → j ≤ i → ArePriced e depth ws start j (Some p)
  scan_ends i p o le = record { each = λ t w plain. let l = o.each t w plain in by t l.0 l.1 }
    where
      by : (t rest : Tree) → Left e ws i j t p rest → TreePriced e depth t (Some p)
      by t Empty l = (
        l.exact,
        record { steps = l.steps; cost = λ s b. omega (arith, l.cost s b) },
        omega (arith, l.most),
        l.held,
      )
      by t (Then x u) l =
          let far : i < l.reads.0 = operands_past x ws i l.reads.0 l.reads.1.1 in
          absurd (omega (arith, le, far, reads_within u ws l.reads.0 j l.reads.2))

-- items with a body, by what is computed of it
module _ (e depth : ℕ) (ws : List ℕ) (i by : ℕ) (to : by ≡ word ws (i + 1)) where
  same_end : i + 1 + by ≡ skip ws (i + 1)
  same_end = ap (λ n. i + 1 + n) to

  module _ (least greatest slots : ℕ) (first : least ≡ word ws (i + 2)) (second : greatest ≡ word ws (i + 3))
      (is : slots ≡ loop_slots least greatest) where
    -- a price by the slots and the body's price
    body_law : (price : ℕ → Price → Price) (p q : Price) → BodyPriced e depth ws (i + 4) (i + 1 + by) (Some p)
        → ((x : Price) → IsHeld x p → IsHeld (price slots x) q) → (low high : ℕ) (body : Tree) → Word ws (i + 2) low
        → Word ws (i + 3) high → Reads ws (i + 4) (skip ws (i + 1)) body → refers body ≡ false
        → (x : Price) × IsPrice e body x × IsHeld (price (loop_slots low high) x) q
    body_law price p q told holds low high body first_word second_word reads plain =
        let own = same_slots ws i least greatest slots first second is low high first_word second_word in
        let x = told.each body (subst (λ n. Reads ws (i + 4) n body) (sym same_end) reads) plain in
        (x.0, x.1, subst (λ n. IsHeld (price n x.0) q) own (holds x.0 x.2))

    pub loop_law : (p q : Price) → BodyPriced e depth ws (i + 4) (i + 1 + by) (Some p)
        → ((x : Price) → IsHeld x p → IsHeld (loop_price slots x) q)
        → LoopPriced e depth ws i (Some (record { behind = i + 1 + by + 1; price = q }))
    loop_law p q told holds = record {
      each = λ o low high body j w plain.
          let x = body_law loop_price p q told holds low high body w.0 w.1 w.3 plain in
          (omega (arith, same_end, w.5), (loop_price _ x.0, loop_priced e body x.0 x.1 o low high, x.2));
    }

    pub possessive_law : (p q : Price) → BodyPriced e depth ws (i + 4) (i + 1 + by) (Some p)
        → ((x : Price) → IsHeld x p → IsHeld (possessive_price slots x) q)
        → PossessivePriced e depth ws i (Some (record { behind = i + 1 + by + 1; price = q }))
    possessive_law p q told holds = record {
      each = λ low high body j w plain.
          let x = body_law possessive_price p q told holds low high body w.0 w.1 w.3 plain in
          (omega (arith, same_end, w.5), (possessive_price _ x.0, possessive_priced e body x.0 x.1 low high, x.2));
    }

-- what is told of an instruction by what it begins
pub priced_as : (e depth : ℕ) (ws : List ℕ) (i : ℕ) (o : SreOpcode) (k : Kind) (r : Option PricedItem) → Opcode ws i o
    → k ≡ kind_of (role o) → PricedBy k e depth ws i r → PricedAt e depth ws i r
priced_as e depth ws i o k r w is told = record {
  by = λ p v.
      subst (λ z. PricedBy z e depth ws i r) (is ∙ ap (λ q. kind_of (role q)) (same_opcode ws i o p w v)) told;
}

-- what alternatives cost
abbrev of_alternatives : ℕ → ℕ → Trees → ℕ → ℕ
of_alternatives e s ts b = s * branch_steps ts b + branch_cost e s ts b

-- alternatives of which some are passed at such a cost: none is left, or these are
abbrev AreLeft : ℕ → List ℕ → ℕ → ℕ → Trees → ℕ → ℕ → ℕ → Type 0
AreLeft e ws q j ts cost each apart =
    (Word ws q 0 × (j ≡ q + 1) × ((s b : ℕ) → of_alternatives e s ts b ≡ s * (cost + each * b) + apart))
    ⊎ ((us : Trees) × ReadsBranch ws q j us × (of_branch by_references us ≡ false)
    × (of_branch by_nesting us ≤ of_branch by_nesting ts)
    × ((s b : ℕ) → of_alternatives e s ts b + s ≡ s * (cost + each * b) + apart + of_alternatives e s us b))

pub record BranchLeft (e : ℕ) (ws : List ℕ) (q j : ℕ) (ts : Trees) (p : Price) : Type 0 where
  pub cost : ℕ
  pub each : ℕ
  pub apart : ℕ
  pub held : IsHeld (closed_price cost each apart) p
  pub left : AreLeft e ws q j ts cost each apart

pub record BranchOnto (e : ℕ) (ws : List ℕ) (first q : ℕ) (p : Price) : Type 0 where
  pub far : first ≤ q
  pub each :
      (ts : Trees) (j : ℕ) → ReadsBranch ws first j ts → of_branch by_references ts ≡ false → BranchLeft e ws q j ts p

-- an alternative takes two steps beside its own, and one for its JUMP
alternative_by : (s b steps cost each apart own all : ℕ) (q : Bool) → own ≡ steps + cond q b 0
    → all ≡ s * (cost + each * b) + apart
    → s * (own + 2) + all ≡ s * (steps + 2 + cost + (each + cond q 1 0) * b) + apart
alternative_by s b steps cost each apart own all true h i = rw (h, i) (omega arith)
alternative_by s b steps cost each apart own all false h i = rw (h, i) (omega arith)

alternative_cost : (e : ℕ) (t : Tree) (x : Price) → IsPrice e t x → (s b : ℕ)
    → let y : Price = joined x (straight_price 1) in
    s * (steps_of t (1 + b) + 2) + cost_of e s t (1 + b)
    ≡ s * (y.steps + 2 + y.cost + (y.each + cond y.is_open 1 0) * b) + y.apart
alternative_cost e t x is s b =
    let y : Price = joined x (straight_price 1) in
    let one : cost_at x (1 + b) ≡ cost_at y b = omega (arith, joined_cost x (straight_price 1) b) in
    alternative_by s b y.steps y.cost y.each y.apart (steps_of t (1 + b)) (cost_of e s t (1 + b)) y.is_open
    (is.steps (1 + b) ∙ joined_steps x (straight_price 1) b)
    (is.cost s (1 + b) ∙ ap (λ c. s * c + x.apart) one ∙ omega arith)

module _ (e depth : ℕ) (ws : List ℕ) (first : ℕ) where
  module _ (q : ℕ) (p : Price) (o : BranchOnto e ws first q p) where
    pub branch_ends : word ws q ≡ 0 → BranchPriced e depth ws first (Some (record { behind = q + 1; price = p }))
    branch_ends none = record { each = λ ts j w plain. by ts j (o.each ts j w plain) }
      where
        by : (ts : Trees) (j : ℕ) → BranchLeft e ws q j ts p
            → ItemPriced e depth (Branch ts) j (Some (record { behind = q + 1; price = p }))
        by ts j l = elim l.left [
          | inl x ↦ (
            sym x.1,
            (closed_price l.cost l.each l.apart, record { steps = λ b. refl; cost = x.2 }, l.held),
          )
          | inr x ↦ absurd (omega (arith, none, alternative_long ws q j x.0 x.1))
        ]

    pub branch_cut : length ws ≤ q → BranchPriced e depth ws first None
    branch_cut le = record { each = λ ts j w plain. by ts j (o.each ts j w plain) }
      where
        by : (ts : Trees) (j : ℕ) → BranchLeft e ws q j ts p → ItemPriced e depth (Branch ts) j None
        by ts j l = elim l.left [
          | inl x ↦ absurd (omega (arith, le, word_within ws q 0 x.0))
          | inr x ↦ absurd (omega (arith, get_or_past ws q 0 le, alternative_long ws q j x.0 x.1))
        ]

    module _ (some : word ws q ≡ 0 → ⊥) (end : ℕ) (at : end ≡ skip ws q - 2) where
      -- the alternative there is read up to its JUMP
      body_told : {r : Option Price} → BodyPriced e depth ws (q + 1) end r → (t : Tree)
          → Reads ws (q + 1) (skip ws q - 2) t → refers t ≡ false → InsidePriced e depth t r
      body_told told t w plain = told.each t (subst (λ n. Reads ws (q + 1) n t) (sym at) w) plain

      pub branch_deep : BodyPriced e depth ws (q + 1) end None → BranchPriced e depth ws first None
      branch_deep told = record { each = λ ts j w plain. by ts j (o.each ts j w plain) }
        where
          of : (us ts : Trees) (j : ℕ) → ReadsBranch ws q j us → of_branch by_references us ≡ false
              → of_branch by_nesting us ≤ of_branch by_nesting ts → ItemPriced e depth (Branch ts) j None
          of (Only t) ts j w plain le = omega (arith, le, body_told told t w.0 plain)
          of (Or t us) ts j w plain le =
              omega (
                arith,
                le,
                body_told told t w.0 (or_parts (refers t) (of_branch by_references us) plain).0,
                le-max_left (nesting t) (of_branch by_nesting us),
              )

          by : (ts : Trees) (j : ℕ) → BranchLeft e ws q j ts p → ItemPriced e depth (Branch ts) j None
          by ts j l = elim l.left [
            | inl x ↦ absurd (some (word_of ws q 0 x.0))
            | inr x ↦ of x.0 ts j x.1 x.2 x.3
          ]

      pub branch_next : (body own r : Price) → BodyPriced e depth ws (q + 1) end (Some body)
          → ((x y : Price) → IsHeld x body → IsHeld y (straight_price 1) → IsHeld (joined x y) own)
          → ((x y : Price) → IsHeld x p → IsHeld y own → IsHeld (with_alternative x y) r)
          → BranchOnto e ws first (q + word ws q) r
      branch_next body own r told joins holds =
          record { far = omega (arith, o.far); each = λ ts j w plain. by ts j (o.each ts j w plain) }
        where
          -- the alternative t is passed, and these are left
          grown : (t : Tree) (ts : Trees) (j : ℕ) (l : BranchLeft e ws q j ts p)
              → (x : (x : Price) × IsPrice e t x × IsHeld x body)
              → (let y : Price = joined x.0 (straight_price 1) in
              AreLeft e ws (q + word ws q) j ts (l.cost + (y.steps + 2 + y.cost))
              (l.each + (y.each + cond y.is_open 1 0)) (l.apart + y.apart))
              → BranchLeft e ws (q + word ws q) j ts r
          grown t ts j l x left =
              let y : Price = joined x.0 (straight_price 1) in
              record {
                cost = l.cost + (y.steps + 2 + y.cost);
                each = l.each + (y.each + cond y.is_open 1 0);
                apart = l.apart + y.apart;
                held =
                    holds (closed_price l.cost l.each l.apart) y l.held
                    (joins x.0 (straight_price 1) x.2 (held_straight 1 (omega arith)));
                left = left;
              }

          of : (us ts : Trees) (j : ℕ) (l : BranchLeft e ws q j ts p) → ReadsBranch ws q j us
              → of_branch by_references us ≡ false → of_branch by_nesting us ≤ of_branch by_nesting ts
              → ((s b : ℕ) → of_alternatives e s ts b + s
              ≡ s * (l.cost + l.each * b) + l.apart + of_alternatives e s us b)
              → BranchLeft e ws (q + word ws q) j ts r
          of (Only t) ts j l w plain le sum =
              let x = body_told told t w.0 plain in
              grown t ts j l x (inl (w.2, w.3, λ s b. omega (arith, sum s b, alternative_cost e t x.0 x.1 s b)))
          of (Or t us) ts j l w plain le sum =
              let both = or_parts (refers t) (of_branch by_references us) plain in
              let x = body_told told t w.0 both.0 in
              grown t ts j l x (inr (
                us,
                w.2,
                both.1,
                omega (arith, le, le-max_right (nesting t) (of_branch by_nesting us)),
                λ s b. omega (arith, sum s b, alternative_cost e t x.0 x.1 s b),
              ))

          by : (ts : Trees) (j : ℕ) → BranchLeft e ws q j ts p → BranchLeft e ws (q + word ws q) j ts r
          by ts j l = elim l.left [
            | inl x ↦ absurd (some (word_of ws q 0 x.0))
            | inr x ↦ of x.0 ts j l x.1 x.2 x.3 x.4
          ]
