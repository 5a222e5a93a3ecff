-- How deep a tree's items are nested.
-- Of the specification: what sre_engine makes public rests on it.
use Rattle.std.specs.Prelude.{ℕ, ◌+◌, max}
use Rattle.sre_model.specs.Tree.{Tree, Item, Branch, Loop, PossessiveLoop, Atomic, Look}
use Rattle.sre_model.specs.Folding.{Folding, of_tree}

-- a branch, a loop, an atomic group or a lookaround is one level
abbrev pub by_nesting : Folding ℕ
by_nesting = record { nothing = 0; both = max; item = nested_here }
  where
    nested_here : Item → ℕ → ℕ
    nested_here (Branch ts) inside = inside + 1
    nested_here (Loop o low high body) inside = inside + 1
    nested_here (PossessiveLoop low high body) inside = inside + 1
    nested_here (Atomic body) inside = inside + 1
    nested_here (Look sign back body) inside = inside + 1
    nested_here x inside = inside

-- the greatest number of them within each other
abbrev pub nesting : Tree → ℕ
nesting = of_tree by_nesting
