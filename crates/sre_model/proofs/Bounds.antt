-- Each match path ends between its position and the range's end, and is at least as long as the tree's least width.
use Rattle.sre_model.proofs.Terms.{◌≡◌, ℕ, zero, suc, ◌+◌, ◌*◌, ◌<◌, ◌≤◌, Bool, true, false, ◌&&◌, ◌||◌, true≢false}
use Rattle.sre_model.proofs.Terms.{nat_le, List, refl, sym, ap, arith, AllByRecursion, nat_tests, mul-le-mul_right}
use Rattle.sre_model.proofs.Terms.{Tree, Empty, Then, Item, Trees, Only, Or, Test, Marks, set_mark, group, refers}
use Rattle.sre_model.proofs.Terms.{by_references, of_item, of_branch, Subject, passes, holds_at, Way, Body, here}
use Rattle.sre_model.proofs.Terms.{most_from, longest_run, within, ways, item_ways, width, least_width, branch_ways}
use Rattle.sre_model.proofs.Terms.{item_width}
use Rattle.sre_model.specs.Tree.{Fail, One, At, Mark, Branch, Loop, Run, PossessiveLoop, Atomic, Look, Reference}
use Rattle.sre_model.specs.Tree.{Exists, ExistsElse}
use Rattle.sre_model.proofs.Each.{each-weaken, filter-each, each-filter}
use Rattle.sre_model.proofs.Along.{Times, Counted, Goes, none, pair, each_way, weaken, by_cond, by_first, goes-then}
use Rattle.sre_model.proofs.Along.{goes-or, goes-present, goes-look, goes-loop, goes-possessive, run_rounds, goes-run}
use Rattle.sre_model.proofs.Along.{goes-reference}

-- a way that ends between p and the range's end
abbrev pub Between : Subject → ℕ → Way → Type 0
Between s p w = (p ≤ w.stop) × (w.stop ≤ s.end)

-- each of some ways does
abbrev pub EachBetween : Subject → ℕ → List Way → Type 0
EachBetween s p ws = AllByRecursion (Between s p) ws

-- each way of a body does, from wherever it begins
abbrev pub Bounded : Subject → Body → Type 0
Bounded s body = (p : ℕ) (m : Marks) → p ≤ s.end → EachBetween s p (body p m)

module _ (s : Subject) where
  between : (p : ℕ) (w : Way) → (nat_le p w.stop && nat_le w.stop s.end) ≡ true → Between s p w
  between p w h = grind (arith, nat_tests)

  between-test : (p : ℕ) (w : Way) → Between s p w → (nat_le p w.stop && nat_le w.stop s.end) ≡ true
  between-test p w h = grind (arith, nat_tests)

  -- what is followed of a body lies between
  pub within-each : (p : ℕ) (ws : List Way) → EachBetween s p (within s p ws)
  within-each p ws =
      each-weaken _ _ (between p) (within s p ws) (each-filter (λ w. nat_le p w.stop && nat_le w.stop s.end) ws)

  -- and it is the whole body, where that lies between
  pub within-all : (p : ℕ) (ws : List Way) → EachBetween s p ws → within s p ws ≡ ws
  within-all p ws h =
      filter-each (λ w. nat_le p w.stop && nat_le w.stop s.end) ws (each-weaken (Between s p) _ (between-test p) ws h)

  -- a character that passes a test stands in the range
  pub passes-below : (t : Test) (p : ℕ) → passes s t p ≡ true → p < s.end
  passes-below t p h = grind (arith, nat_tests)

  -- so many characters on, or more, and not out of the range
  abbrev pub Wide : ℕ → ℕ → ℕ → Type 0
  Wide w p q = (p + w ≤ q) × (p ≤ s.end → q ≤ s.end)

  times-wide : (w n p q : ℕ) → Times (Wide w) n p q → Wide (n * w) p q
  times-wide w zero p q t = (omega (arith, t), λ i. omega (arith, t, i))
  times-wide w (suc n) p q t =
      let later = times-wide w n t.0 q t.2 in (omega (arith, t.1.0, later.0), λ i. later.1 (t.1.1 i))

  counted-wide : (w v high low p q : ℕ) → v ≤ low * w → Counted (Wide w) high 0 low p q → Wide v p q
  counted-wide w v high low p q l t =
      let all = times-wide w t.0 p q t.3 in (omega (arith, l, all.0, mul-le-mul_right w t.1), all.1)

  passes-wide : (t : Test) (p : ℕ) → passes s t p ≡ true → Wide 1 p (p + 1)
  passes-wide t p e = (omega arith, λ _. omega (arith, passes-below t p e))

  -- a run ends inside the range
  pub longest_run-fits : (t : Test) (high p : ℕ) → p ≤ s.end → p + longest_run s t high p ≤ s.end
  longest_run-fits t high p h =
      (times-wide 1 (longest_run s t high p) p (p + longest_run s t high p)
      (run_rounds (λ k l. k ≡ l) s (Wide 1) t (passes-wide t) (most_from s high p) p (longest_run s t high p)
      (omega arith)).1).1 h

  -- under equivalent captures, and in each group that is asked for the same
  module _ (M : Marks → Marks → Type 0) (marked : (n p : ℕ) (k l : Marks) → M k l → M (set_mark k n p) (set_mark l n p))
    where
      -- whether it asks for groups, where that is told
      abbrev Told : Bool → Type 0
      Told b = b ≡ true → (g : ℕ) (m n : Marks) → M m n → group m g ≡ group n g

      told : (a b : Bool) → Told (a || b) → Told a × Told b
      told true b h = (h, λ _. h refl)
      told false b h = ((λ e. absurd (true≢false (sym e))), h)

      abbrev Far : ℕ → Body → Type 0
      Far n body = Goes M (Wide n) body

      still : (p q : ℕ) → p ≡ q → Wide 0 p q
      still p q e = (omega (arith, e), λ i. omega (arith, e, i))

      shorter : (n k : ℕ) (body : Body) → k ≤ n → Far n body → Far k body
      shorter n k body l f p m j e = weaken M (λ q b. (omega (arith, l, b.0), b.1)) (f p m j e)

      mutual
        -- the ways of a tree are as wide as it is, and stop at the same positions under equivalent captures
        pub tree_goes : (t : Tree) → Told (refers t) → Far (width t) (ways s t)
        tree_goes Empty h = λ p m n e. pair (still p p refl) e none
        tree_goes (Then x rest) h =
            let parts = told (of_item by_references x) (refers rest) h in
            goes-then M (item_ways s x) (ways s rest) (λ p l q a b. (omega (arith, a.0, b.0), λ i. b.1 (a.1 i)))
            (item_goes x parts.0) (tree_goes rest parts.1)

        -- the ways of an item
        pub item_goes : (x : Item) → Told (of_item by_references x) → Far (item_width x) (item_ways s x)
        item_goes Fail h = λ p m n e. none
        item_goes (One t) h = λ p m n e.
            by_cond M (passes s t p) (λ y. pair (passes-wide t p y) e none) (λ _. none)
        item_goes (At a) h = λ p m n e. by_cond M (holds_at s a p) (λ _. pair (still p p refl) e none) (λ _. none)
        item_goes (Mark k) h = λ p m n e. pair (still p p refl) (marked k p m n e) none
        item_goes (Branch ts) h = branch_goes ts h
        item_goes (Loop o low high body) h = λ p m n e.
            weaken M (λ q. counted-wide (width body) _ high low p q (omega arith))
            (goes-loop M s o low high (ways s body) (tree_goes body h) p m n e)
        item_goes (Run kind low high t) h = λ p m n e.
            weaken M (λ q. counted-wide 1 low high low p q (omega arith))
            (goes-run M s kind low high t (passes-wide t) p m n e)
        item_goes (PossessiveLoop low high body) h = λ p m n e.
            weaken M (λ q. counted-wide (width body) _ high low p q (omega arith))
            (goes-possessive M s low high (ways s body) (tree_goes body h) p m n e)
        item_goes (Atomic body) h = λ p m n e. by_first M (tree_goes body h p m n e)
        item_goes (Look sign back body) h =
            goes-look M (Wide 0) (λ p. still p p refl) sign back (ways s body) (tree_goes body h)
        item_goes (Reference f g) h =
            goes-reference M s (Wide 0) f g (h refl g) (λ p n l. (omega arith, λ _. l))
        item_goes (Exists g there) h =
            goes-present M g (ways s there) here (h refl g)
            (shorter (width there) 0 (ways s there) (omega arith) (tree_goes there (λ _. h refl)))
            (λ p m n e. pair (still p p refl) e none)
        item_goes (ExistsElse g there absent) h =
            goes-present M g (ways s there) (ways s absent) (h refl g)
            (shorter (width there) _ (ways s there) (omega arith) (tree_goes there (λ _. h refl)))
            (shorter (width absent) _ (ways s absent) (omega arith) (tree_goes absent (λ _. h refl)))

        branch_goes : (ts : Trees) → Told (of_branch by_references ts) → Far (least_width ts) (branch_ways s ts)
        branch_goes (Only t) h = tree_goes t h
        branch_goes (Or t ts) h =
            let parts = told (refers t) (of_branch by_references ts) h in
            goes-or M (ways s t) (branch_ways s ts)
            (shorter (width t) _ (ways s t) (omega arith) (tree_goes t parts.0))
            (shorter (least_width ts) _ (branch_ways s ts) (omega arith) (branch_goes ts parts.1))

  -- each way of a tree is as wide as the tree
  pub tree-wide : (t : Tree) (p : ℕ) (m : Marks) → AllByRecursion (λ w. Wide (width t) p w.stop) (ways s t p m)
  tree-wide t p m =
      each_way (λ k l. k ≡ l) (λ w. Wide (width t) p w.stop) (λ w b. b)
      (tree_goes (λ k l. k ≡ l) (λ n q k l e. ap (λ x. set_mark x n q) e) t (λ _ g k l e. ap (λ x. group x g) e) p m m
      refl)

  -- the ways of a tree lie between their position and the range's end
  pub ways-bounded : (t : Tree) → Bounded s (ways s t)
  ways-bounded t p m h =
      each-weaken (λ w. Wide (width t) p w.stop) (Between s p) (λ w b. (omega (arith, b.0), b.1 h)) (ways s t p m)
      (tree-wide t p m)

  -- and so do those of an item
  pub item-bounded : (item : Item) → Bounded s (item_ways s item)
  item-bounded x p m h =
      each_way (λ k l. k ≡ l) (Between s p) (λ w b. (omega (arith, b.0), b.1 h))
      (item_goes (λ k l. k ≡ l) (λ n q k l e. ap (λ x. set_mark x n q) e) x (λ _ g k l e. ap (λ x. group x g) e) p m m
      refl)
