-- What a tree's instructions cost in steps: how many are taken at most up to the next instruction that may branch, by
-- those of what follows; and what all instructions that may branch cost at a position, each once for each state of the
-- loops around it.
-- Of the specification: what sre_engine makes public rests on it.
use Rattle.std.specs.Prelude.{ℕ, ◌+◌, ◌-◌, ◌*◌, ◌/◌, cond, min, max, nat_eq}
use Rattle.sre_model.specs.Tree.{Tree, Empty, Then, Item, Fail, One, At, Mark, Branch, Loop, Run, PossessiveLoop}
use Rattle.sre_model.specs.Tree.{Atomic, Look, Reference, Exists, ExistsElse, Trees, Only, Or, GreedyRun, LazyRun}
use Rattle.sre_model.specs.Tree.{PossessiveRun}
use Rattle.sre_model.specs.Ways.{unlimited}
use Rattle.sre_model.specs.Slots.{counted_to, loop_slots}

abbrev mutual
  -- the steps up to the next instruction that may branch, where b follow
  pub steps_of : Tree → ℕ → ℕ
  steps_of Empty b = b
  steps_of (Then x rest) b = item_steps x (steps_of rest b)

  pub item_steps : Item → ℕ → ℕ
  item_steps Fail b = 1
  item_steps (One t) b = 1 + b
  item_steps (At a) b = 1 + b
  item_steps (Mark n) b = 1 + b
  item_steps (Branch ts) b = 1
  item_steps (Loop o low high body) b = 1
  item_steps (Run kind low high t) b = 1
  item_steps (PossessiveLoop low high body) b = 1
  item_steps (Atomic body) b = 2 + steps_of body 2 + b
  item_steps (Look sign back body) b = 2 + steps_of body 2 + b
  item_steps (Reference fold g) b = 1 + b
  item_steps (Exists g there) b = 1 + max (steps_of there b) b
  item_steps (ExistsElse g there absent) b = 1 + max (steps_of there (1 + b)) (steps_of absent b)

-- those of a branch's alternatives, each of which ends with a JUMP
abbrev pub branch_steps : Trees → ℕ → ℕ
branch_steps (Only t) b = steps_of t (1 + b) + 2 + 1
branch_steps (Or t ts) b = steps_of t (1 + b) + 2 + branch_steps ts b

-- how many ends a repeat of one character has at most beside one; without a greatest count its end moves by one
abbrev pub other_ends : ℕ → ℕ → ℕ → ℕ
other_ends e low high = cond (nat_eq high unlimited) 0 (min high e - low)

-- what a repeat of one character is charged for its scan at most: one for each eight characters that make a difference
abbrev pub scan_price : ℕ → ℕ → ℕ → ℕ
scan_price e low high = min (counted_to low high) e / 8

abbrev mutual
  -- what the instructions that may branch cost where b steps follow, in a range that ends at e, under loops of s states
  pub cost_of : ℕ → ℕ → Tree → ℕ → ℕ
  cost_of e s Empty b = 0
  cost_of e s (Then x rest) b = item_cost e s x (steps_of rest b) + cost_of e s rest b

  pub item_cost : ℕ → ℕ → Item → ℕ → ℕ
  item_cost e s Fail b = 0
  item_cost e s (One t) b = 0
  item_cost e s (At a) b = 0
  item_cost e s (Mark n) b = 0
  item_cost e s (Branch ts) b = s * branch_steps ts b + branch_cost e s ts b
  item_cost e s (Loop o low high body) b =
      s * (steps_of body 1 + b + 2) + loop_slots low high * s * (steps_of body 1 + b + 1)
      + cost_of e (loop_slots low high * s) body 1
  item_cost e s (Run GreedyRun low high t) b = s * ((1 + other_ends e low high) * (b + 2) + scan_price e low high)
  item_cost e s (Run LazyRun low high t) b = s * ((1 + other_ends e low high) * (b + 2) + scan_price e low high)
  item_cost e s (Run PossessiveRun low high t) b = s * (b + 2 + scan_price e low high)
  item_cost e s (PossessiveLoop low high body) b =
      s * 1 + loop_slots low high * s * (steps_of body 2 + b + 1) + cost_of e 1 body 2
  item_cost e s (Atomic body) b = cost_of e 1 body 2
  item_cost e s (Look sign back body) b = cost_of e 1 body 2
  item_cost e s (Reference fold g) b = 0
  item_cost e s (Exists g there) b = cost_of e s there b
  item_cost e s (ExistsElse g there absent) b = cost_of e s there (1 + b) + cost_of e s absent b

  pub branch_cost : ℕ → ℕ → Trees → ℕ → ℕ
  branch_cost e s (Only t) b = cost_of e s t (1 + b)
  branch_cost e s (Or t ts) b = cost_of e s t (1 + b) + branch_cost e s ts b

-- a run of the machine may begin behind some of the first items: the most steps that one of them takes
abbrev pub most_steps : Tree → ℕ
most_steps Empty = 2
most_steps (Then x rest) = max (steps_of (Then x rest) 2) (most_steps rest)
