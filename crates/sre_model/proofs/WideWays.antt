-- Each match path is at least as long as the tree's least width, which saturates at the greatest word.
use Rattle.sre_model.proofs.Terms.{◌≤◌, arith, Tree, Empty, Then, Trees, Only, Or, width, least_width, ◌≡◌, ℕ, ◌+◌, ◌<◌}
use Rattle.sre_model.proofs.Terms.{List, [], ◌∷◌, refl, flat_map, AllByRecursion, Marks, Subject, Way, Body, ways}
use Rattle.sre_model.proofs.Each.{each-flat_map, each-weaken}
use Rattle.sre_model.proofs.Bounds.{EachBetween, Wide, tree-wide, ways-bounded}

pub width_held : (t : Tree) → width t ≤ 4294967295
width_held Empty = omega arith
width_held (Then x t) = omega arith

pub least_held : (ts : Trees) → least_width ts ≤ 4294967295
least_held (Only t) = width_held t
least_held (Or t ts) = omega (arith, width_held t)

-- a way that ends n characters on, or more
abbrev pub Far : ℕ → ℕ → Way → Type 0
Far n p w = p + n ≤ w.stop

abbrev pub EachFar : ℕ → ℕ → List Way → Type 0
EachFar n p ws = AllByRecursion (Far n p) ws

-- each way of a body does, from wherever it begins
abbrev pub IsWide : ℕ → Body → Type 0
IsWide n body = (p : ℕ) (m : Marks) → EachFar n p (body p m)

module _ (s : Subject) where
  -- what goes on from each of some ways
  pub on-far : (n k p : ℕ) (f : Way → List Way) → ((w : Way) → EachFar k w.stop (f w)) → (ws : List Way) → EachFar n p
      ws
      → EachFar (n + k) p (flat_map f ws)
  on-far n k p f g ws h =
      each-flat_map (Far n p) (Far (n + k) p) f
      (λ w b. each-weaken (Far k w.stop) (Far (n + k) p) (λ x c. omega (arith, b, c)) (f w) (g w)) ws h

  pub shorter : (n k p : ℕ) → k ≤ n → (ws : List Way) → EachFar n p ws → EachFar k p ws
  shorter n k p l ws h = each-weaken (Far n p) (Far k p) (λ w b. omega (arith, l, b)) ws h

  -- the ways of a tree
  pub ways-far : (t : Tree) → IsWide (width t) (ways s t)
  ways-far t p m =
      each-weaken (λ w. Wide s (width t) p w.stop) (Far (width t) p) (λ w b. b.0) (ways s t p m) (tree-wide s t p m)

  -- where the width does not fit there is no way
  pub narrow_none : (t : Tree) (w p : ℕ) (m : Marks) → w ≤ width t → p ≤ s.end → s.end < p + w → ways s t p m ≡ []
  narrow_none t w p m l inside narrow = by_ways (ways s t p m) (ways-far t p m) (ways-bounded s t p m inside)
    where
      by_ways : (ws : List Way) → EachFar (width t) p ws → EachBetween s p ws → ws ≡ []
      by_ways [] far between = refl
      by_ways (x ∷ xs) far between = absurd (omega (arith, l, narrow, far.0, between.0.1))
