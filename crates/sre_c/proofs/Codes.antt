-- What follows of a code in words of its bytecode.
use Rattle.sre_c.proofs.Terms.{ℕ, ◌≡◌, List, false, ap, Table, Tree, Whole, IsCode, Confirmed, Asked, Code, words_of}
use Rattle.sre_c.proofs.Terms.{behind_block, IsEnough, props, ∥∥₁_map, ∥∥₁_elim, refers, asked_from, longest_lookbehind}
use Rattle.sre_c.proofs.Terms.{whole_same, kept_tree, AreEnough, SreHints, hints_told, IsKnown}
use Rattle.sre_code.specs.Codes.{items_of}

-- the words behind the block
pub items_in : (code : Code) {ws : List ℕ} → words_of code ≡ ws → items_of code ≡ behind_block ws
unfolding items_of
items_in code own = ap behind_block own

-- a budget that suffices for the words of a code does so for the code
pub enough_of : {code : Code} {a : Asked} {steps : ℕ} → IsEnough (words_of code) a steps → AreEnough a code steps
unfolding items_of
enough_of enough =
    record { tree = enough.tree; whole = enough.whole; remembered = enough.remembered; more = enough.more }

-- what a check has reported
module _ {words : List ℕ} {table : Table} {h : SreHints} (known : ∥ IsKnown words table h ∥₁) where
  pub known_code : IsCode words
  known_code = kept_tree words (∥∥₁_map known (λ k. (k.tree, k.whole)))

  pub known_confirmed : ∥ ((t : Tree) × Whole words t × Confirmed words table t (hints_told h)) ∥₁
  known_confirmed = ∥∥₁_map known (λ k. (k.tree, k.whole, k.hints.confirmed))

  -- the numbers are the tree's
  pub known_numbers : (t : Tree) → Whole words t → (h.refers ≡ refers t) × (h.asked_from ≡ asked_from t)
      × (refers t ≡ false → h.longest_lookbehind ≡ longest_lookbehind t)
  known_numbers t whole =
      ∥∥₁_elim known (hlevel props) (λ k. rw (← whole_same words k.tree t k.whole whole)
      (k.hints.reference, k.hints.asked, k.hints.counts))
