-- Least widths.
-- Of the specification: what sre_engine makes public rests on it.
use Rattle.std.specs.Prelude.{ℕ, ◌+◌, ◌*◌, min}
use Rattle.sre_model.specs.Tree.{Tree, Empty, Then, Item, Fail, One, At, Mark, Branch, Loop, Run, PossessiveLoop}
use Rattle.sre_model.specs.Tree.{Atomic, Look, Reference, Exists, ExistsElse, Trees, Only, Or}

-- a sum or a product, held at the greatest word
abbrev pub capped : ℕ → ℕ
capped n = min n 4294967295

abbrev mutual
  -- the least number of characters that a tree's items pass
  pub width : Tree → ℕ
  width Empty = 0
  width (Then item rest) = capped (item_width item + width rest)

  pub item_width : Item → ℕ
  item_width Fail = 0
  item_width (One t) = 1
  item_width (At a) = 0
  item_width (Mark n) = 0
  item_width (Branch ts) = least_width ts
  item_width (Loop o low high body) = capped (low * width body)
  item_width (Run kind low high t) = low
  item_width (PossessiveLoop low high body) = capped (low * width body)
  item_width (Atomic body) = width body
  item_width (Look sign back body) = 0
  item_width (Reference fold g) = 0
  item_width (Exists g there) = 0
  item_width (ExistsElse g there absent) = min (width there) (width absent)

  pub least_width : Trees → ℕ
  least_width (Only t) = width t
  least_width (Or t ts) = min (width t) (least_width ts)
