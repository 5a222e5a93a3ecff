-- Folds of trees: what holds of two folds' values of each item holds of trees.
use Rattle.sre_model.proofs.Terms.{◌≡◌, refl, ap, ap₂, Tree, Empty, Then, Item, Trees, Only, Or, Folding, of_tree}
use Rattle.sre_model.proofs.Terms.{of_parts, of_branch}
use Rattle.sre_model.specs.Tree.{Branch, Loop, PossessiveLoop, Atomic, Look, Exists, ExistsElse}

-- two folds' values are related where what they have and make of nothing, of two parts and of an item is
module _ {A B : Type 0} (f : Folding A) (g : Folding B) (R : A → B → Type 0) (nothing : R f.nothing g.nothing)
    (both : (a c : A) (b d : B) → R a b → R c d → R (f.both a c) (g.both b d))
    (item : (x : Item) (a : A) (b : B) → R a b → R (f.item x a) (g.item x b)) where
  mutual
    tree_related : (t : Tree) → R (of_tree f t) (of_tree g t)
    tree_related Empty = nothing
    tree_related (Then x rest) = both _ _ _ _ (item x _ _ (parts_related x)) (tree_related rest)

    parts_related : (x : Item) → R (of_parts f x) (of_parts g x)
    parts_related (Branch ts) = branch_related ts
    parts_related (Loop o low high body) = tree_related body
    parts_related (PossessiveLoop low high body) = tree_related body
    parts_related (Atomic body) = tree_related body
    parts_related (Look sign back body) = tree_related body
    parts_related (Exists n there) = tree_related there
    parts_related (ExistsElse n there absent) = both _ _ _ _ (tree_related there) (tree_related absent)
    parts_related x = nothing

    branch_related : (ts : Trees) → R (of_branch f ts) (of_branch g ts)
    branch_related (Only t) = tree_related t
    branch_related (Or t ts) = both _ _ _ _ (tree_related t) (branch_related ts)

-- two folds in one: its value of a tree is what each gives
module _ {A B : Type 0} (f : Folding A) (g : Folding B) where
  abbrev pub paired : Folding (A × B)
  paired = record {
    nothing = (f.nothing, g.nothing);
    both = λ a b. (f.both a.0 b.0, g.both a.1 b.1);
    item = λ x a. (f.item x a.0, g.item x a.1);
  }

  pub tree_paired : (t : Tree) → of_tree paired t ≡ (of_tree f t, of_tree g t)
  tree_paired t = ap₂ (λ a b. (a, b))
      (tree_related paired f (λ p a. p.0 ≡ a) refl (λ p q a b. ap₂ f.both) (λ x p a. ap (f.item x)) t)
      (tree_related paired g (λ p b. p.1 ≡ b) refl (λ p q a b. ap₂ g.both) (λ x p a. ap (g.item x)) t)
