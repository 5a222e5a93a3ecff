-- Counter states: how many states of the loops in progress make a difference to what is still to come.
-- Of the specification: what sre_engine makes public rests on it.
use Rattle.std.specs.Prelude.{ℕ, ◌+◌, ◌*◌, cond, max, nat_eq}
use Rattle.sre_model.specs.Tree.{Tree, Item, Loop, PossessiveLoop}
use Rattle.sre_model.specs.Ways.{unlimited}
use Rattle.sre_model.specs.Folding.{Folding, of_tree}

-- up to which number a loop's bodies make a difference
abbrev pub counted_to : ℕ → ℕ → ℕ
counted_to low high = cond (nat_eq high unlimited) low (max low high)

-- how many states of a loop tell a difference, by its least and its greatest count: its bodies as far as they count,
-- and whether the last one began right here
abbrev pub loop_slots : ℕ → ℕ → ℕ
loop_slots low high = (counted_to low high + 1) * 2

-- the states of a loop are there with each of those inside of it; a possessive loop matches its body apart
abbrev pub by_slots : Folding ℕ
by_slots = record { nothing = 1; both = max; item = most_here }
  where
    most_here : Item → ℕ → ℕ
    most_here (Loop o low high body) inside = loop_slots low high * inside
    most_here (PossessiveLoop low high body) inside = max (loop_slots low high) inside
    most_here x inside = inside

-- how many do at most at a place of a tree's words: the greatest product over loops within each other
abbrev pub most_slots : Tree → ℕ
most_slots = of_tree by_slots
