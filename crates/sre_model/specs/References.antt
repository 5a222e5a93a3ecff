-- Back-references and conditionals: whether a tree reads a group's presence or text, and the range of such groups.
-- Of the specification: what sre_engine makes public rests on it.
use Rattle.std.specs.Prelude.{ℕ, Bool, true, false, ◌||◌, min, max}
use Rattle.sre_model.specs.Tree.{Tree, Item, Reference, Exists, ExistsElse}
use Rattle.sre_model.specs.Folding.{Folding, of_tree}

-- references and conditions
abbrev pub by_references : Folding Bool
by_references = record { nothing = false; both = ◌||◌; item = refers_here }
  where
    refers_here : Item → Bool → Bool
    refers_here (Reference fold g) inside = true
    refers_here (Exists g there) inside = true
    refers_here (ExistsElse g there absent) inside = true
    refers_here x inside = inside

-- whether a reference or a condition stands anywhere in a tree
abbrev pub refers : Tree → Bool
refers = of_tree by_references

-- no group: no pattern has so many
abbrev pub no_group : ℕ
no_group = 4294967295

-- the groups that are asked for, where n stands for none: a reference asks for its own, and a condition for all
abbrev pub by_asked : ℕ → (ℕ → ℕ → ℕ) → (ℕ → ℕ → ℕ) → Folding ℕ
by_asked n merge all = record { nothing = n; both = merge; item = asked_here }
  where
    asked_here : Item → ℕ → ℕ
    asked_here (Reference fold g) inside = g
    asked_here (Exists g there) inside = all g inside
    asked_here (ExistsElse g there absent) inside = all g inside
    asked_here x inside = inside

-- the first of them, and the last
abbrev pub by_groups : Folding ℕ
by_groups = by_asked no_group min (λ g inside. 0)

abbrev pub by_last_groups : Folding ℕ
by_last_groups = by_asked 0 max (λ g inside. max no_group (max g inside))

-- from which group on a tree asks for groups: no reference in it is to one before. A condition counts as asking for
-- each group; where neither is there, it is no group
abbrev pub asked_from : Tree → ℕ
asked_from = of_tree by_groups

-- up to which group it asks: no reference in it is to one behind, and no group is where there is a condition; 0 where
-- neither is there
abbrev pub asked_to : Tree → ℕ
asked_to = of_tree by_last_groups
