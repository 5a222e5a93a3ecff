-- Prefixes: literals that a tree begins with, and where they occur in a text.
-- Public clauses rest on it.
use Rattle.std.specs.Prelude.{ℕ, zero, suc, ◌+◌, ◌*◌, ◌-◌, Bool, true, false, ◌&&◌, cond, nat_eq, List}
use Rattle.std.specs.Prelude.{[], ◌∷◌, length, slice_range}
use Rattle.sre_model.specs.Tree.{Tree, Empty, Then, One, Mark, Literal, Plain}
use Rattle.sre_model.specs.Grammar.{Reads}
use Rattle.sre_model.specs.Subject.{Subject, passes}

-- whether a tree's items begin with the literals of some words in order: the first k one directly after the other, and
-- only marks before and between the others
abbrev pub spells : ℕ → Tree → List ℕ → Bool
spells k t [] = true
spells k (Then (One (Literal Plain u)) rest) (v ∷ vs) = nat_eq u v && spells (k - 1) rest vs
spells k (Then (Mark n) rest) (v ∷ vs) = nat_eq k 0 && spells k rest (v ∷ vs)
spells k t (v ∷ vs) = false

-- the tree behind the first n items
abbrev pub behind_items : ℕ → Tree → Tree
behind_items zero t = t
behind_items (suc n) Empty = Empty
behind_items (suc n) (Then x rest) = behind_items n rest

-- behind its first n literals, of two words each, the words are those of the tree behind its first n items
abbrev pub ReadsBehind : List ℕ → ℕ → Tree → Type 0
ReadsBehind ws n t = Reads ws (2 * n) (length ws - 1) (behind_items n t)

-- whether a tree has no items
abbrev pub is_empty : Tree → Bool
is_empty Empty = true
is_empty (Then x rest) = false

-- whether words stand at a position: the window's characters from there on are those
abbrev pub stands_at : Subject → List ℕ → ℕ → Bool
stands_at s [] p = true
stands_at s (v ∷ vs) p = passes s (Literal Plain v) p && stands_at s vs (p + 1)

-- how many of the n positions from p on pass a test
abbrev pub how_many : (ℕ → Bool) → ℕ → ℕ → ℕ
how_many test p zero = 0
how_many test p (suc n) = how_many test p n + cond (test (p + n)) 1 0

-- the l words of a block's prefix, and their overlap words
abbrev pub prefix_of : List ℕ → ℕ → List ℕ
prefix_of words l = slice_range words 7 (7 + l)

abbrev pub overlaps_of : List ℕ → ℕ → List ℕ
overlaps_of words l = slice_range words (7 + l) (7 + l + l)
