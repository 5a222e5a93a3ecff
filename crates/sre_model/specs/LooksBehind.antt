-- How far the lookbehinds of a tree reach back: together, and the longest of them.
-- Of the specification: what sre_engine makes public rests on it.
use Rattle.std.specs.Prelude.{ℕ, ◌+◌, max}
use Rattle.sre_model.specs.Tree.{Tree, Item, Look}
use Rattle.sre_model.specs.Folding.{Folding, of_tree}

-- a look goes back, and so may those inside of it from there
abbrev pub by_backs : Folding ℕ
by_backs = record { nothing = 0; both = ◌+◌; item = backs_here }
  where
    backs_here : Item → ℕ → ℕ
    backs_here (Look sign back body) inside = back + inside
    backs_here x inside = inside

-- how far all looks of a tree go back together: from where it begins it is never looked further back
abbrev pub backs : Tree → ℕ
backs = of_tree by_backs

-- how far each look goes back
abbrev pub by_longest : Folding ℕ
by_longest = record { nothing = 0; both = max; item = longest_here }
  where
    longest_here : Item → ℕ → ℕ
    longest_here (Look sign back body) inside = max back inside
    longest_here x inside = inside

-- the length of the longest lookbehind of a tree, in characters
abbrev pub longest_lookbehind : Tree → ℕ
longest_lookbehind = of_tree by_longest
