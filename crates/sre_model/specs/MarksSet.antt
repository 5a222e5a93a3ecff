-- Capture slots that are set: whether a tree sets one, and whether it sets one inside an atomic scope.
-- Of the specification: what sre_engine makes public rests on it. The ends of atomic scopes are memoized for codes
-- whose atomic scopes set none.
use Rattle.std.specs.Prelude.{Bool, true, false, ◌||◌}
use Rattle.sre_model.specs.Tree.{Tree, Item, Mark, PossessiveLoop, Atomic, Look}
use Rattle.sre_model.specs.Folding.{Folding, of_tree}

-- marks
abbrev pub by_marks : Folding Bool
by_marks = record { nothing = false; both = ◌||◌; item = mark_here }
  where
    mark_here : Item → Bool → Bool
    mark_here (Mark n) inside = true
    mark_here x inside = inside

-- whether a mark is set anywhere in a tree
abbrev pub sets_mark : Tree → Bool
sets_mark = of_tree by_marks

-- marks inside regions
abbrev pub by_marked_regions : Folding Bool
by_marked_regions = record { nothing = false; both = ◌||◌; item = marked_here }
  where
    marked_here : Item → Bool → Bool
    marked_here (PossessiveLoop low high body) inside = sets_mark body || inside
    marked_here (Atomic body) inside = sets_mark body || inside
    marked_here (Look sign back body) inside = sets_mark body || inside
    marked_here x inside = inside

-- whether a mark is set inside a region of a tree
abbrev pub marks_in_regions : Tree → Bool
marks_in_regions = of_tree by_marked_regions
