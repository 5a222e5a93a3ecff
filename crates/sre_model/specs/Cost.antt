-- How many steps it takes to try all match paths of a tree, given how many it takes for what follows.
-- Of the specification: what sre_engine makes public rests on it.
use Rattle.std.specs.Prelude.{ℕ, zero, suc, ◌+◌, ◌-◌, cond, nat_eq, nat_lt, nat_le, ◌&&◌, List, [], ◌∷◌, Option, Some}
use Rattle.std.specs.Prelude.{None}
use Rattle.sre_model.specs.Tree.{Tree, Empty, Then, Item, One, At, Mark, Branch, Loop, Run, GreedyRun, LazyRun}
use Rattle.sre_model.specs.Tree.{PossessiveRun, PossessiveLoop, Atomic, Look, Sign, Positive, Negative, Trees, Only, Or}
use Rattle.sre_model.specs.Tree.{Fail, Reference, Exists, ExistsElse, Fold}
use Rattle.sre_model.specs.Marks.{Marks, set_mark, group}
use Rattle.sre_model.specs.Subject.{Subject, passes, holds_at, same_folded}
use Rattle.sre_model.specs.Ways.{Way, Body, unlimited, longest_run, may_repeat, ways}

-- the turns from a position under marks
abbrev pub Costs : Type 0
Costs = ℕ → Marks → ℕ

-- a region's last turns
abbrev pub ending : Costs
ending q k = 2

-- the shorter counts of a run, down to the least
abbrev pub shorter_cost : Costs → ℕ → ℕ → Costs
shorter_cost C low zero p m = 1
shorter_cost C low (suc n) p m = suc (suc (C (p + (low + n)) m + shorter_cost C low n p m))

abbrev pub run_cost : ℕ → ℕ → Costs → Costs
run_cost low k C p m = cond (nat_lt k low) 1 (suc (suc (C (p + k) m + shorter_cost C low (k - low) p m)))

-- the longest count alone: a run without a greatest count takes a turn for each character beyond its least count
abbrev pub longest_run_cost : ℕ → ℕ → ℕ → Costs → Costs
longest_run_cost low high k C p m =
    cond (nat_lt k low) 1 (cond (nat_eq high unlimited) (k - low) 0 + suc (C (p + k) m))

-- the longer counts of a lazy run, n of them behind c characters
abbrev pub longer_cost : Costs → ℕ → ℕ → Costs
longer_cost C c zero p m = 1
longer_cost C c (suc n) p m = suc (suc (C (p + (c + 1)) m + longer_cost C (c + 1) n p m))

abbrev pub lazy_run_cost : ℕ → ℕ → Costs → Costs
lazy_run_cost low k C p m = cond (nat_lt k low) 1 (suc (suc (C (p + low) m + longer_cost C low (k - low) p m)))

-- the bodies of a loop below its least count
abbrev pub least_cost : (Costs → Costs) → Costs → ℕ → Costs
least_cost body rest zero p m = rest p m
least_cost body rest (suc owed) p m = suc (body (λ q k. least_cost body rest owed q k) p m)

-- a loop from its least count on
abbrev pub more_cost : ℕ → (Costs → Costs) → Costs → ℕ → ℕ → Option ℕ → Costs
more_cost high body C zero count last p m = suc (C p m)
more_cost high body C (suc fuel) count last p m =
    cond (may_repeat high count last p)
    (suc (suc (body (λ q k. more_cost high body C fuel (count + 1) (Some p) q k) p m + C p m))) (suc (C p m))

-- behind an atomic group whose body has these ways
abbrev pub atomic_cost : Costs → List Way → ℕ
atomic_cost C [] = 1
atomic_cost C (w ∷ _) = suc (C w.stop w.marks)

-- the bodies of a possessive loop below its least count
abbrev pub owed_cost : (Costs → Costs) → Body → Costs → ℕ → Costs
owed_cost body W rest zero p m = rest p m
owed_cost body W rest (suc owed) p m =
    suc (body ending p m + atomic_cost (λ q k. owed_cost body W rest owed q k) (W p m))

-- behind a further body of a possessive loop, from where it began
abbrev pub further_cost : Costs → Costs → ℕ → Marks → List Way → ℕ
further_cost C again p m [] = suc (C p m)
further_cost C again p m (w ∷ _) = suc (again w.stop w.marks)

-- a possessive loop from its least count on
abbrev pub possessive_cost : ℕ → (Costs → Costs) → Body → Costs → ℕ → ℕ → Option ℕ → Costs
possessive_cost high body W C zero count last p m = suc (C p m)
possessive_cost high body W C (suc fuel) count last p m =
    let again : Costs = λ q k. possessive_cost high body W C fuel (count + 1) (Some p) q k in
    cond (may_repeat high count last p) (suc (body ending p m + further_cost C again p m (W p m))) (suc (C p m))

-- behind a look, from where it began
abbrev pub look_cost : Sign → Costs → ℕ → Marks → List Way → ℕ
look_cost Positive C p m [] = 1
look_cost Positive C p m (w ∷ _) = suc (C p w.marks)
look_cost Negative C p m [] = suc (C p m)
look_cost Negative C p m (w ∷ _) = 1

-- a look and what is behind it
abbrev pub looked_cost : Sign → ℕ → (Costs → Costs) → Body → Costs → Costs
looked_cost sign back body W C p m =
    cond (nat_lt p back) (look_cost sign C p m [])
    (suc (body ending (p - back) m + look_cost sign C p m (W (p - back) m)))

-- a reference, by whether its group is present
abbrev pub reference_cost : Subject → Fold → Option (ℕ × ℕ) → Costs → Costs
reference_cost s fold None C p m = 1
reference_cost s fold (Some span) C p m =
    cond (nat_le (p + (span.1 - span.0)) s.end && same_folded s fold (span.1 - span.0) span.0 p)
    (suc (C (p + (span.1 - span.0)) m)) 1

-- a condition, by whether its group is present
abbrev pub condition_cost : Option (ℕ × ℕ) → ℕ → ℕ → ℕ
condition_cost None present absent = suc absent
condition_cost (Some span) present absent = suc present

abbrev mutual
  pub cost : Subject → Tree → Costs → Costs
  cost s Empty C p m = C p m
  cost s (Then item rest) C p m = item_cost s item (λ q k. cost s rest C q k) p m

  pub item_cost : Subject → Item → Costs → Costs
  item_cost s (One t) C p m = cond (passes s t p) (suc (C (p + 1) m)) 1
  item_cost s (At a) C p m = cond (holds_at s a p) (suc (C p m)) 1
  item_cost s (Mark n) C p m = suc (C p (set_mark m n p))
  item_cost s (Branch ts) C p m = suc (branch_cost s ts (λ q k. suc (C q k)) p m)
  item_cost s (Loop o low high body) C p m =
      suc (least_cost (λ D q k. cost s body D q k)
      (λ q k. more_cost high (λ D a b. cost s body D a b) C (s.end + 1 - q) low None q k) low p m)
  item_cost s (Run GreedyRun low high t) C p m = run_cost low (longest_run s t high p) C p m
  item_cost s (Run LazyRun low high t) C p m = lazy_run_cost low (longest_run s t high p) C p m
  item_cost s (Run PossessiveRun low high t) C p m = longest_run_cost low high (longest_run s t high p) C p m
  item_cost s (PossessiveLoop low high body) C p m =
      suc (owed_cost (λ D q k. cost s body D q k) (λ q k. ways s body q k)
      (λ q k. possessive_cost high (λ D a b. cost s body D a b) (λ a b. ways s body a b) C (s.end + 1 - q) low None q k)
      low p m)
  item_cost s (Atomic body) C p m = suc (cost s body ending p m + atomic_cost C (ways s body p m))
  item_cost s (Look sign back body) C p m =
      looked_cost sign back (λ D q k. cost s body D q k) (λ q k. ways s body q k) C p m
  item_cost s (Reference fold g) C p m = reference_cost s fold (group m g) C p m
  item_cost s (Exists g there) C p m = condition_cost (group m g) (cost s there C p m) (C p m)
  item_cost s (ExistsElse g there absent) C p m =
      condition_cost (group m g) (cost s there (λ q k. suc (C q k)) p m) (cost s absent C p m)
  item_cost s Fail C p m = 1

  pub branch_cost : Subject → Trees → Costs → Costs
  branch_cost s (Only t) C p m = suc (suc (cost s t C p m + 1))
  branch_cost s (Or t ts) C p m = suc (suc (cost s t C p m + branch_cost s ts C p m))
