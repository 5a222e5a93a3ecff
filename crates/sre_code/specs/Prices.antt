-- Prices of items as they are computed, by numbers that saturate at 64 bits: the steps and costs they come to, whatever
-- follows and whatever loops are around them.
-- Definitions for the check's contracts; what sre_engine makes public does not rest on it.
use Rattle.std.specs.Prelude.{ℕ, ◌-◌, ◌^◌, ◌≡◌, min, ◌+◌, ◌*◌, ◌<◌, ◌≤◌, Bool, true, false, ◌&&◌, cond, max, List}
use Rattle.std.specs.Prelude.{Option, Some, None}
use Rattle.sre_code.specs.Terms.{SreOpcode, Tree, Item, Trees, Order, Word, skip, Opcode, Operands, Reads, ReadsBranch}
use Rattle.sre_code.specs.Terms.{Role, role, refers, nesting, scan_price, PossessiveRun, by_references, of_item}
use Rattle.sre_code.specs.Terms.{by_nesting, steps_of, item_steps, other_ends, cost_of, item_cost, most_steps}
use Rattle.sre_model.specs.Roles.{ToFail, ToRun, ToBranch, ToRepeat, ToRepeatPossessively, ToGroupAtomically, ToLook}
use Rattle.sre_model.specs.Tree.{Loop, Branch, PossessiveLoop, Atomic}
use Rattle.sre_code.specs.Scans.{Behind, NoneBehind}
use Rattle.sre_code.specs.declared.code.prices.Price.{Price}
use Rattle.sre_code.specs.declared.code.prices.Prices.{Prices}
use Rattle.sre_code.specs.declared.code.prices.PricedItem.{PricedItem}
use Rattle.sre_code.specs.declared.code.prices.Kind.{Kind}
use Rattle.sre_code.specs.declared.code.prices.Kind.TheVariants as kind

-- x, or the greatest number of 64 bits where x is above it
pub record Held (x r : ℕ) : Type 0 where
  pub is : r ≡ min x (2 ^ 64 - 1)

-- what a price comes to, where b steps follow, under loops of one state
abbrev pub steps_at : Price → ℕ → ℕ
steps_at p b = p.steps + cond p.is_open b 0

abbrev pub cost_at : Price → ℕ → ℕ
cost_at p b = p.cost + p.each * b

-- it is that of items, or of one, in a range that ends at e
pub record IsPrice (e : ℕ) (t : Tree) (p : Price) : Type 0 where
  pub steps : (b : ℕ) → steps_of t b ≡ steps_at p b
  pub cost : (s b : ℕ) → cost_of e s t b ≡ s * cost_at p b + p.apart

pub record IsItemPrice (e : ℕ) (x : Item) (p : Price) : Type 0 where
  pub steps : (b : ℕ) → item_steps x b ≡ steps_at p b
  pub cost : (s b : ℕ) → item_cost e s x b ≡ s * cost_at p b + p.apart

-- a price as it is kept, each number within 64 bits
pub record IsHeld (x p : Price) : Type 0 where
  pub steps : Held x.steps p.steps
  pub is_open : p.is_open ≡ x.is_open
  pub cost : Held x.cost p.cost
  pub each : Held x.each p.each
  pub apart : Held x.apart p.apart

pub record AreHeld (x p : Prices) : Type 0 where
  pub all : IsHeld x.all p.all
  pub most : Held x.most p.most
  pub since : Held x.since p.since

-- items, and others behind them
abbrev pub joined : Price → Price → Price
joined p q = record {
  steps = steps_at p q.steps;
  is_open = p.is_open && q.is_open;
  cost = cost_at p q.steps + q.cost;
  each = q.each + cond q.is_open p.each 0;
  apart = p.apart + q.apart;
}

-- what is added to the prices of those before: a stretch ends at an item that is not open
abbrev pub passed : Prices → Price → Prices
passed p q = record {
  all = joined p.all q;
  most = cond q.is_open p.most (max (p.since + q.steps) p.most);
  since = cond q.is_open (p.since + q.steps) 0;
}

abbrev pub straight_price : ℕ → Price
straight_price n = record { steps = n; is_open = true; cost = 0; each = 0; apart = 0 }

-- of what may branch
abbrev pub closed_price : ℕ → ℕ → ℕ → Price
closed_price cost each apart = record { steps = 1; is_open = false; cost = cost; each = each; apart = apart }

-- how many ends a repeat of one character has, by its counts: one where it is possessive
abbrev pub run_ends : ℕ → Bool → ℕ → ℕ → ℕ
run_ends e possessive low high = cond possessive 1 (1 + other_ends e low high)

-- by the ends of a repeat of one character and its scan, the states of a loop, and the price of a body
abbrev pub run_price : ℕ → ℕ → Price
run_price ends scan = closed_price (ends * 2 + scan) ends 0

abbrev pub scope_price : Price → Price
scope_price p =
    record { steps = steps_at p 2 + 2; is_open = true; cost = 0; each = 0; apart = cost_at p 2 + p.apart }

abbrev pub loop_price : ℕ → Price → Price
loop_price slots p =
    closed_price (slots * (cost_at p 1 + steps_at p 1 + 1) + steps_at p 1 + 2) (slots + 1) p.apart

abbrev pub possessive_price : ℕ → Price → Price
possessive_price slots p = closed_price (slots * (steps_at p 2 + 1) + 1) slots (cost_at p 2 + p.apart)

-- a branch with one alternative more, whose JUMP is counted with it
abbrev pub with_alternative : Price → Price → Price
with_alternative p q =
    closed_price (p.cost + (q.steps + 2 + q.cost)) (p.each + (q.each + cond q.is_open 1 0)) (p.apart + q.apart)

-- the price of a tree, or that it is nested too deep
abbrev pub TreePriced : ℕ → ℕ → Tree → Option Prices → Type 0
TreePriced e depth t (Some p) =
    (x : Prices) × IsPrice e t x.all × (most_steps t ≡ max (x.since + 2) x.most) × AreHeld x p
TreePriced e depth t None = depth < nesting t

-- that of the items from i up to j, whatever tree they have that does not refer to groups
pub record ArePriced (e depth : ℕ) (ws : List ℕ) (i j : ℕ) (r : Option Prices) : Type 0 where
  pub each : (t : Tree) → Reads ws i j t → refers t ≡ false → TreePriced e depth t r

-- the same of a body, one level deeper
abbrev pub InsidePriced : ℕ → ℕ → Tree → Option Price → Type 0
InsidePriced e depth t (Some p) = (x : Price) × IsPrice e t x × IsHeld x p
InsidePriced e depth t None = depth < nesting t + 1

pub record BodyPriced (e depth : ℕ) (ws : List ℕ) (i j : ℕ) (r : Option Price) : Type 0 where
  pub each : (t : Tree) → Reads ws i j t → refers t ≡ false → InsidePriced e depth t r

-- the price of an item that ends at j, or that it is nested too deep
abbrev pub ItemPriced : ℕ → ℕ → Item → ℕ → Option PricedItem → Type 0
ItemPriced e depth x j (Some p) = (p.behind ≡ j) × ((y : Price) × IsItemPrice e x y × IsHeld y p.price)
ItemPriced e depth x j None = depth < of_item by_nesting x

-- what is at i takes one step, or is a condition
abbrev pub StraightPriced : List ℕ → ℕ → Option PricedItem → Type 0
StraightPriced ws i (Some p) = Behind ws i p.behind × (p.price ≡ straight_price 1)
StraightPriced ws i None = NoneBehind ws i

-- a repeat of one character at i
pub record RunPriced (e : ℕ) (possessive : Bool) (ws : List ℕ) (i : ℕ) (r : Option PricedItem) : Type 0 where
  pub each :
      (low high : ℕ) → Word ws (i + 2) low → Word ws (i + 3) high
      → (run_ends e possessive low high ≤ 2 ^ 32) × (scan_price e low high < 2 ^ 32) × (r ≡ Some (record {
        behind = skip ws (i + 1);
        price = run_price (run_ends e possessive low high) (scan_price e low high);
      }))

pub record LoopPriced (e depth : ℕ) (ws : List ℕ) (i : ℕ) (r : Option PricedItem) : Type 0 where
  pub each :
      (o : Order) (low high : ℕ) (body : Tree) (j : ℕ) → Operands ws i j (Loop o low high body)
      → refers body ≡ false → ItemPriced e depth (Loop o low high body) j r

pub record PossessivePriced (e depth : ℕ) (ws : List ℕ) (i : ℕ) (r : Option PricedItem) : Type 0 where
  pub each :
      (low high : ℕ) (body : Tree) (j : ℕ) → Operands ws i j (PossessiveLoop low high body)
      → refers body ≡ false → ItemPriced e depth (PossessiveLoop low high body) j r

-- an atomic group or a lookaround at i, whose body begins at b
pub record ScopePriced (e depth : ℕ) (ws : List ℕ) (i b : ℕ) (r : Option PricedItem) : Type 0 where
  pub each :
      (body : Tree) (j : ℕ) → j ≡ skip ws (i + 1) → Reads ws b (j - 1) body → refers body ≡ false
      → ItemPriced e depth (Atomic body) j r

-- a branch whose first length word is at q
pub record BranchPriced (e depth : ℕ) (ws : List ℕ) (q : ℕ) (r : Option PricedItem) : Type 0 where
  pub each :
      (ts : Trees) (j : ℕ) → ReadsBranch ws q j ts → of_item by_references (Branch ts) ≡ false
      → ItemPriced e depth (Branch ts) j r

pub record FailPriced (i : ℕ) (r : Option PricedItem) : Type 0 where
  pub is : r ≡ Some (record { behind = i + 1; price = closed_price 0 0 0 })

abbrev pub kind_of : Role → Kind
kind_of ToFail = kind.Fail
kind_of (ToRun PossessiveRun) = kind.PossessiveRun
kind_of (ToRun _) = kind.Run
kind_of ToBranch = kind.Branch
kind_of ToRepeat = kind.Loop
kind_of ToRepeatPossessively = kind.PossessiveLoop
kind_of ToGroupAtomically = kind.AtomicGroup
kind_of (ToLook sign) = kind.Look
kind_of _ = kind.Other

-- the price of the item at i, by what its first instruction is
abbrev pub PricedBy : Kind → ℕ → ℕ → List ℕ → ℕ → Option PricedItem → Type 0
PricedBy kind.Fail e depth ws i r = FailPriced i r
PricedBy kind.Run e depth ws i r = RunPriced e false ws i r
PricedBy kind.PossessiveRun e depth ws i r = RunPriced e true ws i r
PricedBy kind.Branch e depth ws i r = BranchPriced e depth ws (i + 1) r
PricedBy kind.Loop e depth ws i r = LoopPriced e depth ws i r
PricedBy kind.PossessiveLoop e depth ws i r = PossessivePriced e depth ws i r
PricedBy kind.AtomicGroup e depth ws i r = ScopePriced e depth ws i (i + 2) r
PricedBy kind.Look e depth ws i r = ScopePriced e depth ws i (i + 3) r
PricedBy kind.Other e depth ws i r = StraightPriced ws i r

pub record PricedAt (e depth : ℕ) (ws : List ℕ) (i : ℕ) (r : Option PricedItem) : Type 0 where
  pub by : (o : SreOpcode) → Opcode ws i o → PricedBy (kind_of (role o)) e depth ws i r
