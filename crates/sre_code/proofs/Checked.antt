-- The tree of checked bytecode.
use Rattle.sre_code.proofs.Terms.{ℕ, List, sym, subst, ∥∥₁_map, Table, Tree, Whole, IsCode, WholeItems, Confirmed}
use Rattle.sre_code.proofs.Terms.{Hints, words_of, kept_tree, whole_same, ∥∥₁_elim}
use Rattle.std.proofs.Props.{props}
use Rattle.sre_code.specs.declared.code.Code.{Code}
use Rattle.sre_code.specs.Codes.{items_of, uni_of, hints_of}
use Rattle.sre_model.proofs.Props.{first_set_prop}
use Rattle.sre_model.proofs.TreeOf.{tree_of, whole-read}

-- the one tree of a code
pub code_tree : {table : Table} (ws : List ℕ) (hints : Hints)
    → ∥ ((t : Tree) × Whole ws t × Confirmed ws table t hints) ∥₁ → IsCode ws
code_tree {table} ws hints c = kept_tree ws (∥∥₁_map c (λ x. (x.0, x.1)))

-- it is the one that the reader gives of the words behind the block
pub whole_of : (code : Code) → WholeItems (items_of code) (tree_of (items_of code))
unfolding items_of
whole_of code =
    let k = code_tree (words_of code) (hints_of code) code.checked in
    subst (λ t. WholeItems (items_of code) t) (sym (whole-read (items_of code) k.0 k.1.1)) k.1.1

-- a code's tree is that of its items
pub items_whole : (code : Code) (t : Tree) → Whole (words_of code) t → WholeItems (items_of code) t
unfolding items_of
items_whole code t w = w.1

-- and a tree of its items is the code's
pub whole_items : (code : Code) (t : Tree) → WholeItems (items_of code) t → Whole (words_of code) t
unfolding items_of
whole_items code t w = ((code_tree (words_of code) (hints_of code) code.checked).1.0, w)

-- what is confirmed of its tree is confirmed in one way
confirmed_prop : (ws : List ℕ) (table : Table) (t : Tree) (hints : Hints) → IsProp (Confirmed ws table t hints)
confirmed_prop ws table t hints = hlevel (props, first_set_prop ws table t)

pub code_confirmed : (code : Code) (t : Tree) → Whole (words_of code) t
    → Confirmed (words_of code) (uni_of code) t (hints_of code)
code_confirmed code t w =
    ∥∥₁_elim code.checked (confirmed_prop (words_of code) (uni_of code) t (hints_of code))
    (λ x. subst (λ u. Confirmed (words_of code) (uni_of code) u (hints_of code))
    (whole_same (words_of code) x.0 t x.1 w) x.2)
