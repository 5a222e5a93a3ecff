-- A value of a tree that is made of the values of its items, and an item's of those of its parts.
-- Of the specification: what sre_engine makes public rests on it.
use Rattle.sre_model.specs.Tree.{Tree, Empty, Then, Item, Fail, One, At, Mark, Branch, Loop, Run, PossessiveLoop}
use Rattle.sre_model.specs.Tree.{Atomic, Look, Reference, Exists, ExistsElse, Trees, Only, Or}

-- what nothing has, what two parts have together, and what an item makes of what its parts have
pub record Folding (A : Type 0) : Type 0 where
  pub nothing : A
  pub both : A → A → A
  pub item : Item → A → A

module _ {A : Type 0} (f : Folding A) where
  abbrev mutual
    -- what a tree has
    pub of_tree : Tree → A
    of_tree Empty = f.nothing
    of_tree (Then x rest) = f.both (f.item x (of_parts x)) (of_tree rest)

    -- what the parts of an item have
    pub of_parts : Item → A
    of_parts Fail = f.nothing
    of_parts (One t) = f.nothing
    of_parts (At a) = f.nothing
    of_parts (Mark n) = f.nothing
    of_parts (Branch ts) = of_branch ts
    of_parts (Loop o low high body) = of_tree body
    of_parts (Run kind low high t) = f.nothing
    of_parts (PossessiveLoop low high body) = of_tree body
    of_parts (Atomic body) = of_tree body
    of_parts (Look sign back body) = of_tree body
    of_parts (Reference fold g) = f.nothing
    of_parts (Exists g there) = of_tree there
    of_parts (ExistsElse g there absent) = f.both (of_tree there) (of_tree absent)

    -- what alternatives have
    pub of_branch : Trees → A
    of_branch (Only t) = of_tree t
    of_branch (Or t ts) = f.both (of_tree t) (of_branch ts)

  -- what an item has
  abbrev pub of_item : Item → A
  of_item x = f.item x (of_parts x)
