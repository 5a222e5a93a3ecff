-- The tree of a part, whether it has one, and how deep parts are nested in it.
-- Public clauses rest on it.
use Rattle.std.specs.Prelude.{ℕ, ◌+◌, ◌≡◌, max, Bool, true, false, ◌&&◌, List, [], ◌∷◌, map, Some, None}
use Rattle.sre_model.specs.Written.{LawfulTree, LawfulItem}
use Rattle.sre_emit.specs.declared.part.Fold.{Fold}
use Rattle.sre_emit.specs.declared.part.RunKind.{RunKind}
use Rattle.sre_emit.specs.declared.part.SetItem.{SetItem}
use Rattle.sre_emit.specs.declared.part.OneChar.{OneChar}
use Rattle.sre_emit.specs.declared.part.Item.TheFolds.{fold-Item, fold-Part}
use Rattle.sre_model.specs.Tree as tree
use Rattle.sre_emit.specs.declared.part.Fold.TheVariants as fold
use Rattle.sre_emit.specs.declared.part.RunKind.TheVariants as kind
use Rattle.sre_emit.specs.declared.part.SetItem.TheVariants as set
use Rattle.sre_emit.specs.declared.part.OneChar.TheVariants as test
pub use Rattle.sre_emit.specs.declared.part.Part.{Part}
pub use Rattle.sre_emit.specs.declared.part.Item.{Item}
use Rattle.sre_emit.specs.declared.part.Item.TheOpen as layer

abbrev pub fold_of : Fold → tree.Fold
fold_of fold.Plain = tree.Plain
fold_of fold.Ascii = tree.Ascii
fold_of fold.Locale = tree.Locale
fold_of fold.Unicode = tree.Unicode

abbrev pub kind_of : RunKind → tree.RunKind
kind_of kind.Greedy = tree.GreedyRun
kind_of kind.Lazy = tree.LazyRun
kind_of kind.Possessive = tree.PossessiveRun

abbrev pub order_of : Bool → tree.Order
order_of true = tree.Lazy
order_of false = tree.Greedy

abbrev pub sign_of : Bool → tree.Sign
sign_of true = tree.Positive
sign_of false = tree.Negative

abbrev pub set_item_of : SetItem → tree.SetItem
set_item_of (set.Literal v) = tree.Single v
set_item_of (set.Range low high) = tree.Range low high
set_item_of (set.RangeUniIgnore low high) = tree.RangeUniIgnore low high
set_item_of (set.Category c) = tree.Category c
set_item_of (set.Charset bits) = tree.Charset bits
set_item_of (set.BigCharset numbers bits) = tree.BigCharset numbers.items bits.items
set_item_of set.Negate = tree.Negate

abbrev pub test_of : OneChar → tree.Test
test_of test.Any = tree.Any
test_of test.AnyAll = tree.AnyAll
test_of (test.Category c) = tree.InCategory c
test_of (test.Literal false f v) = tree.Literal (fold_of f) v
test_of (test.Literal true f v) = tree.NotLiteral (fold_of f) v
test_of (test.In f s) = tree.In (fold_of f) (map set_item_of s.items)

-- items, one after the other
abbrev pub in_order : List tree.Item → tree.Tree
in_order [] = tree.Empty
in_order (x ∷ xs) = tree.Then x (in_order xs)

-- alternatives; where there is none, which no branch may have, that of nothing
abbrev pub alternatives : List tree.Tree → tree.Trees
alternatives [] = tree.Only tree.Empty
alternatives (t ∷ []) = tree.Only t
alternatives (t ∷ u ∷ ts) = tree.Or t (alternatives (u ∷ ts))

-- an item's tree, by those of its parts
abbrev pub item_step : layer.Item-F tree.Item tree.Tree → tree.Item
item_step layer.Fail = tree.Fail
item_step (layer.One t) = tree.One (test_of t)
item_step (layer.At a) = tree.At a
item_step (layer.Mark n) = tree.Mark n
item_step (layer.Branch parts) = tree.Branch (alternatives parts.items)
item_step (layer.Loop lazy low high body) = tree.Loop (order_of lazy) low high body
item_step (layer.Run kind low high t) = tree.Run (kind_of kind) low high (test_of t)
item_step (layer.PossLoop low high body) = tree.PossessiveLoop low high body
item_step (layer.Atomic body) = tree.Atomic body
item_step (layer.Look positive back body) = tree.Look (sign_of positive) back body
item_step (layer.Ref f g) = tree.Reference (fold_of f) g
item_step (layer.Exists g there None) = tree.Exists g there
item_step (layer.Exists g there (Some absent)) = tree.ExistsElse g there absent

abbrev pub part_step : layer.Part-F tree.Item tree.Tree → tree.Tree
part_step p = in_order p.items.items

-- the tree of a part, and of an item
abbrev pub tree_of : Part → tree.Tree
tree_of = fold-Part tree.Item tree.Tree item_step part_step

abbrev pub item_of : Item → tree.Item
item_of = fold-Item tree.Item tree.Tree item_step part_step

abbrev pub all : List Bool → Bool
all [] = true
all (b ∷ bs) = b && all bs

abbrev pub some_parts : List Bool → Bool
some_parts [] = false
some_parts (b ∷ bs) = b && all bs

-- whether each branch has a part, by whether those inside do
abbrev pub branch_step : layer.Item-F Bool Bool → Bool
branch_step (layer.Branch parts) = some_parts parts.items
branch_step (layer.Loop lazy low high body) = body
branch_step (layer.PossLoop low high body) = body
branch_step (layer.Atomic body) = body
branch_step (layer.Look positive back body) = body
branch_step (layer.Exists g there None) = there
branch_step (layer.Exists g there (Some absent)) = there && absent
branch_step _ = true

abbrev pub branches_step : layer.Part-F Bool Bool → Bool
branches_step p = all p.items.items

-- whether each branch in a part, or in an item, has a part
abbrev pub has_alternatives : Part → Bool
has_alternatives = fold-Part Bool Bool branch_step branches_step

abbrev pub item_has_alternatives : Item → Bool
item_has_alternatives = fold-Item Bool Bool branch_step branches_step

-- a part has a tree
pub record HasTree (p : Part) : Type 0 where
  pub alternatives : has_alternatives p ≡ true
  pub lawful : LawfulTree (tree_of p)

-- an item has one
pub record HasItemTree (x : Item) : Type 0 where
  pub alternatives : item_has_alternatives x ≡ true
  pub lawful : LawfulItem (item_of x)

abbrev pub most : List ℕ → ℕ
most [] = 0
most (n ∷ ns) = max n (most ns)

-- how many items the innermost parts lie inside of
abbrev pub depth_step : layer.Item-F ℕ ℕ → ℕ
depth_step (layer.Branch parts) = most (map (λ n. n + 1) parts.items)
depth_step (layer.Loop lazy low high body) = body + 1
depth_step (layer.PossLoop low high body) = body + 1
depth_step (layer.Atomic body) = body + 1
depth_step (layer.Look positive back body) = body + 1
depth_step (layer.Exists g there None) = there + 1
depth_step (layer.Exists g there (Some absent)) = max there absent + 1
depth_step _ = 0

abbrev pub depths_step : layer.Part-F ℕ ℕ → ℕ
depths_step p = most p.items.items

abbrev pub depth : Part → ℕ
depth = fold-Part ℕ ℕ depth_step depths_step

abbrev pub item_depth : Item → ℕ
item_depth = fold-Item ℕ ℕ depth_step depths_step
