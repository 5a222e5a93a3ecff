-- Patterns for starts alone: where the pattern has no match the tree has no match path.
use Rattle.sre_patterns.proofs.Terms.{◌≡◌, ℕ, List, [], ◌∷◌, ◌++◌, refl, ap₂, flat_map, AllByRecursion, Re, empty, cat}
use Rattle.sre_patterns.proofs.Terms.{Matches, Table, Tree, Then, Item, Subject, Way, Body, ways, item_ways, Leads}
use Rattle.sre_patterns.proofs.Terms.{IsWider, Along, View, Covers, CoversItem, CoversStart, Fronts}
use Rattle.sre_patterns.proofs.Composed.{Leg}

module _ (s : Subject) (hay : List ℕ) (off : ℕ → ℕ) where
  -- some ways of which none can be are none
  none-left : (re : Re) (p : ℕ) (ws : List Way) → AllByRecursion (Leg s (Leads hay off re) p) ws
      → ((j : ℕ) → ¬ (Matches hay re (off p) j)) → ws ≡ []
  none-left re p [] h n = refl
  none-left re p (w ∷ ws) h n = absurd (n (off w.stop) h.0.0)

  pub fronts-along : (re : Re) (body : Body) → Along s (Leads hay off re) body → Fronts s hay off re body
  fronts-along re body a p m h n = none-left re p (body p m) (a p m h) n

  all-empty : (a : Re) (f : Way → List Way) (p : ℕ) (ws : List Way) → AllByRecursion (Leg s (Leads hay off a) p) ws
      → ((w : Way) → Leg s (Leads hay off a) p w → f w ≡ []) → flat_map f ws ≡ []
  all-empty a f p [] h g = refl
  all-empty a f p (w ∷ ws) h g = ap₂ (λ xs ys. xs ++ ys) (g w h.0) (all-empty a f p ws h.1 g)

  -- behind an item that is covered whole
  pub fronts-then : (a b : Re) (item : Item) (rest : Tree) → Along s (Leads hay off a) (item_ways s item)
      → Fronts s hay off b (ways s rest) → Fronts s hay off (cat a b) (ways s (Then item rest))
  fronts-then a b item rest f g p m h n =
      all-empty a (λ w. ways s rest w.stop w.marks) p (item_ways s item p m) (f p m h)
      (λ w l. g w.stop w.marks l.1 (λ j k. n j (off w.stop, l.0, k)))

module _ (V : View) (table : Table) where
  -- a pattern that covers a tree tells of its starts
  pub start-covers : (re : Re) (t : Tree) → Covers V table re t → CoversStart V table re t
  start-covers re t c = record {
    covers = λ s hay off v same. fronts-along s hay off re (ways s t) (c.covers s hay off v same);
  }

  -- the empty pattern has a match everywhere
  pub start-empty : (t : Tree) → CoversStart V table empty t
  start-empty t = record { covers = λ s hay off v same p m l none. absurd (none (off p) refl) }

  pub start-wider : (a b : Re) (t : Tree) → IsWider a b → CoversStart V table a t → CoversStart V table b t
  start-wider a b t wider f = record {
    covers = λ s hay off v same p m l none. f.covers s hay off v same p m l (λ j k. none j (wider hay (off p) j k));
  }

  pub start-then : (a b : Re) (item : Item) (rest : Tree) → CoversItem V table a item → CoversStart V table b rest
      → CoversStart V table (cat a b) (Then item rest)
  start-then a b item rest f g = record {
    covers = λ s hay off v same.
        fronts-then s hay off a b item rest (f.covers s hay off v same) (g.covers s hay off v same);
  }
