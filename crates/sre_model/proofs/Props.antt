-- A tree is related in one way, and a FIRST set is confirmed in one way.
use Rattle.sre_model.proofs.Terms.{ℕ, ◌+◌, ◌*◌, ◌-◌, ◌≡◌, List, [], ◌∷◌, length, props, is_prop→PathP, Tree, Empty}
use Rattle.sre_model.proofs.Terms.{Then, Item, Trees, Only, Or, Test, SetItem, Single, Range, RangeUniIgnore, Category}
use Rattle.sre_model.proofs.Terms.{Charset, BigCharset, Negate, word, skip, Reads, ReadsItem, ReadsBranch, TestOperands}
use Rattle.sre_model.proofs.Terms.{ReadsSet, Whole, WholeItems, behind_block, ∥∥₁_elim, IsCode, true, false, Table}
use Rattle.sre_model.proofs.Terms.{Plain, Opcode, HasFirstSet, has_flag, behind_marks, TestIn, EachTestIn, FirstIn}
use Rattle.sre_model.specs.Tree.{One, Branch, Loop, Run, PossessiveLoop, Atomic, Look, Exists, ExistsElse, In, Literal}
use Rattle.sre_model.proofs.TreeOf.{item_same, whole_same, set_same}
use Rattle.sre_chars.specs.declared.constants.SreOpcode.TheVariants as opcode

-- the place between two readings is determined
between : (A B : ℕ → Type 0) → ((k m : ℕ) → A k → A m → k ≡ m) → ((k : ℕ) → IsProp (A k)) → ((k : ℕ) → IsProp (B k))
    → IsProp ((k : ℕ) × A k × B k)
between A B one pa pb x y =
    let p : x.0 ≡ y.0 = one x.0 y.0 x.1 y.1 in
    λ i. (
      p i,
      is_prop→PathP (λ j. A (p j)) (λ j. pa (p j)) x.1 y.1 i,
      is_prop→PathP (λ j. B (p j)) (λ j. pb (p j)) x.2 y.2 i,
    )

pub set_prop : (s : List SetItem) (ws : List ℕ) (i j : ℕ) → IsProp (ReadsSet ws i j s)
set_prop [] ws i j = hlevel props
set_prop (Single v ∷ s) ws i j = hlevel (props, set_prop s ws (i + 2) j)
set_prop (Range l h ∷ s) ws i j = hlevel (props, set_prop s ws (i + 3) j)
set_prop (RangeUniIgnore l h ∷ s) ws i j = hlevel (props, set_prop s ws (i + 3) j)
set_prop (Category c ∷ s) ws i j = hlevel (props, set_prop s ws (i + 2) j)
set_prop (Charset b ∷ s) ws i j = hlevel (props, set_prop s ws (i + 9) j)
set_prop (BigCharset n b ∷ s) ws i j = hlevel (props, set_prop s ws (i + 66 + word ws (i + 1) * 8) j)
set_prop (Negate ∷ s) ws i j = hlevel (props, set_prop s ws (i + 1) j)

test_prop : (t : Test) (ws : List ℕ) (i j : ℕ) → IsProp (TestOperands ws i j t)
test_prop (In f s) ws i j = hlevel (props, set_prop s ws (i + 2) (j - 1))
test_prop t ws i j = hlevel props

mutual
  pub reads_prop : (t : Tree) (ws : List ℕ) (i j : ℕ) → IsProp (Reads ws i j t)
  reads_prop Empty ws i j = hlevel props
  reads_prop (Then x t) ws i j = between (λ k. ReadsItem ws i k x) (λ k. Reads ws k j t)
      (λ k m r s. (item_same x x ws i k m r s).1) (λ k. item_prop x ws i k) (λ k. reads_prop t ws k j)

  item_prop : (x : Item) (ws : List ℕ) (i j : ℕ) → IsProp (ReadsItem ws i j x)
  item_prop (One t) ws i j = hlevel (props, test_prop t ws i j)
  item_prop (Branch ts) ws i j = hlevel (props, branch_prop ts ws (i + 1) j)
  item_prop (Loop o low high body) ws i j = hlevel (props, reads_prop body ws (i + 4) (skip ws (i + 1)))
  item_prop (Run kind low high t) ws i j = hlevel (props, test_prop t ws (i + 4) (j - 1))
  item_prop (PossessiveLoop low high body) ws i j = hlevel (props, reads_prop body ws (i + 4) (skip ws (i + 1)))
  item_prop (Atomic body) ws i j = hlevel (props, reads_prop body ws (i + 2) (j - 1))
  item_prop (Look sign back body) ws i j = hlevel (props, reads_prop body ws (i + 3) (j - 1))
  item_prop (Exists g a) ws i j = hlevel (props, reads_prop a ws (i + 3) j)
  item_prop (ExistsElse g a b) ws i j = hlevel (
    props,
    reads_prop a ws (i + 3) (i + 1 + word ws (i + 2) - 2),
    reads_prop b ws (i + 1 + word ws (i + 2)) j,
  )
  item_prop x ws i j = hlevel props

  branch_prop : (ts : Trees) (ws : List ℕ) (q j : ℕ) → IsProp (ReadsBranch ws q j ts)
  branch_prop (Only t) ws q j = hlevel (props, reads_prop t ws (q + 1) (skip ws q - 2))
  branch_prop (Or t ts) ws q j =
      hlevel (props, reads_prop t ws (q + 1) (skip ws q - 2), branch_prop ts ws (skip ws q) j)

items_prop : (ws : List ℕ) (t : Tree) → IsProp (WholeItems ws t)
items_prop ws t = hlevel (props, reads_prop t ws 0 (length ws - 1))

pub whole_prop : (ws : List ℕ) (t : Tree) → IsProp (Whole ws t)
whole_prop ws t = hlevel (props, items_prop (behind_block ws) t)

pub code_prop : (ws : List ℕ) → IsProp (IsCode ws)
code_prop ws x y =
    let p : x.0 ≡ y.0 = whole_same ws x.0 y.0 x.1 y.1 in
    λ i. (p i, is_prop→PathP (λ j. Whole ws (p j)) (λ j. whole_prop ws (p j)) x.1 y.1 i)

-- the tree that a code keeps
pub kept_tree : (ws : List ℕ) → ∥ IsCode ws ∥₁ → IsCode ws
kept_tree ws c = ∥∥₁_elim c (code_prop ws) (λ x. x)

test_in_prop : (table : Table) (set : List SetItem) (t : Tree) → IsProp (TestIn table set t)
test_in_prop table set Empty = hlevel props
test_in_prop table set (Then (One (Literal Plain v)) rest) = hlevel props
test_in_prop table set (Then (One (In Plain items)) rest) = hlevel props
test_in_prop table set (Then x rest) = hlevel props

each_test_in_prop : (table : Table) (set : List SetItem) (ts : Trees) → IsProp (EachTestIn table set ts)
each_test_in_prop table set (Only t) = test_in_prop table set (behind_marks t)
each_test_in_prop table set (Or t ts) =
    hlevel (props, test_in_prop table set (behind_marks t), each_test_in_prop table set ts)

first_in_prop : (table : Table) (set : List SetItem) (t : Tree) → IsProp (FirstIn table set t)
first_in_prop table set Empty = test_in_prop table set Empty
first_in_prop table set (Then (Branch ts) rest) = each_test_in_prop table set ts
first_in_prop table set (Then x rest) = test_in_prop table set (Then x rest)

pub first_set_prop : (ws : List ℕ) (table : Table) (t : Tree) → IsProp (HasFirstSet ws table t)
first_set_prop ws table t x y =
    let end = skip ws 1 - 1 in
    let p : x.set ≡ y.set = set_same x.set y.set ws 5 end x.items y.items in
    let flags : IsProp (has_flag 4 ws ≡ true) = hlevel props in
    let clears : IsProp (has_flag 1 ws ≡ false) = hlevel props in
    let ends : IsProp (Opcode ws end opcode.FAILURE) = hlevel props in
    λ i. record {
      flag = flags x.flag y.flag i;
      no_prefix = clears x.no_prefix y.no_prefix i;
      set = p i;
      items = is_prop→PathP (λ j. ReadsSet ws 5 end (p j)) (λ j. set_prop (p j) ws 5 end) x.items y.items i;
      ends = ends x.ends y.ends i;
      first =
          is_prop→PathP (λ j. FirstIn table (p j) (behind_marks t))
          (λ j. first_in_prop table (p j) (behind_marks t)) x.first y.first i;
    }
