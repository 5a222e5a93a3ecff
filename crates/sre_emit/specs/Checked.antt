-- What the check of a part says.
-- Definitions for the check's contracts; the public clauses rest on parts.
use Rattle.std.specs.Prelude.{ℕ, ◌+◌, ◌≤◌, ◌<◌, ◌≡◌, true, List, map, Result, Ok, Err}
use Rattle.sre_model.specs.Written.{LawfulTree, LawfulTrees}
use Rattle.sre_emit.specs.Parts.{Part, Item, tree_of, item_of, in_order, alternatives, has_alternatives}
use Rattle.sre_emit.specs.Parts.{item_has_alternatives, all, some_parts, most, depth, item_depth}
use Rattle.sre_emit.specs.Errors.{EmitError, TooDeep, BadPart}

-- a bad part has no tree, and a deep one lies too deep; no other cause is named
abbrev pub Causes : ℕ → Type 0 → EmitError → Type 0
Causes deep L TooDeep = 1000 < deep
Causes deep L BadPart = L → ⊥
Causes deep L e = ⊥

-- the check of something at a depth, which is lawful where L is the case, and in which parts lie so deep
abbrev pub Checks : {U : Type 0} → ℕ → Type 0 → Result U EmitError → Type 0
Checks deep L (Ok _) = (deep ≤ 1000) × L
Checks deep L (Err e) = Causes deep L e

-- how many items the innermost parts of items lie inside of, and those of alternatives
abbrev pub items_depth : List Item → ℕ
items_depth xs = most (map item_depth xs)

abbrev pub parts_depth : List Part → ℕ
parts_depth ps = most (map (λ n. n + 1) (map depth ps))

-- each item has a tree
abbrev pub HaveTrees : List Item → Type 0
HaveTrees xs = (all (map item_has_alternatives xs) ≡ true) × LawfulTree (in_order (map item_of xs))

-- there are parts, and each has a tree
abbrev pub HaveAlternatives : List Part → Type 0
HaveAlternatives ps = (some_parts (map has_alternatives ps) ≡ true) × LawfulTrees (alternatives (map tree_of ps))
