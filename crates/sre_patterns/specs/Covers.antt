-- When a pattern of bytes has a match wherever a tree has a match path, and when it tries these paths in their order.
use Rattle.std.specs.Prelude.{ℕ, ◌≡◌, ◌+◌, ◌≤◌, ◌<◌, List, [], length, Some, take, slice_get, ◌⊎◌, ◌∷◌, Option, None}
use Rattle.sre_patterns.specs.Terms.{Re, Matches, Table, Tree, Item, Test, Subject, Body, ways, item_ways, char_at}
use Rattle.sre_patterns.specs.Terms.{Rest, Trace, attempt, Way, unlimited}
use Rattle.sre_model.specs.Tree.{One}
use Rattle.sre_model.specs.Marks.{Marks}
use Rattle.std.specs.List.{AllByRecursion}
use Rattle.std.specs.Char.{len_utf8}
use Rattle.sre_chars.specs.Texts.{offset_of}
use Rattle.regex_hir.specs.Text as bytes
use Rattle.std.specs.Option.{option_or}

-- the pattern leads from one position of the text to another, where `off` tells at which byte a position stands
abbrev pub Leads : List ℕ → (ℕ → ℕ) → Re → ℕ → ℕ → Type 0
Leads hay off re p q = Matches hay re (off p) (off q)

-- the second pattern leads wherever the first does
abbrev pub IsWider : Re → Re → Type 0
IsWider a b = (hay : List ℕ) (i j : ℕ) → Matches hay a i j → Matches hay b i j

-- from within the window each way of a body goes along a relation, and ends within the window
abbrev pub Along : Subject → (ℕ → ℕ → Type 0) → Body → Type 0
Along s R body = (p : ℕ) (m : Marks) → p ≤ s.end → AllByRecursion (λ w. R p w.stop × (w.stop ≤ s.end)) (body p m)

-- How a text is seen as bytes: its subject, the bytes up to the window's end, and the byte at which a position stands.
abbrev pub View : Type 1
View = Subject → List ℕ → (ℕ → ℕ) → Type 0

-- each character is a byte below a bound
pub record InBytes (bound : ℕ) (s : Subject) (hay : List ℕ) (off : ℕ → ℕ) : Type 0 where
  pub starts : off 0 ≡ 0
  pub ends : off s.end ≡ length hay
  pub byte : (p : ℕ) → p < s.end → slice_get hay (off p) ≡ Some (char_at s p)
  pub next : (p : ℕ) → p < s.end → off (p + 1) ≡ off p + 1
  pub below : (p : ℕ) → p < s.end → char_at s p < bound

-- each character stands as UTF-8
pub record InUtf8 (s : Subject) (hay : List ℕ) (off : ℕ → ℕ) : Type 0 where
  pub starts : off 0 ≡ 0
  pub ends : off s.end ≡ length hay
  pub char : (p : ℕ) → p < s.end → bytes.char_at hay (off p) ≡ Some (char_at s p)
  pub next : (p : ℕ) → p < s.end → off (p + 1) ≡ off p + len_utf8 (char_at s p)

-- on each text that is seen so the pattern has a match wherever a body has a way, from the same place to the same
pub record CoversBody (V : View) (table : Table) (re : Re) (body : Subject → Body) : Type 0 where
  pub covers : (s : Subject) (hay : List ℕ) (off : ℕ → ℕ) → V s hay off → s.table ≡ table
      → Along s (Leads hay off re) (body s)

-- wherever a tree, an item or a test has one
abbrev pub Covers : View → Table → Re → Tree → Type 0
Covers V table re t = CoversBody V table re (λ s. ways s t)

abbrev pub CoversItem : View → Table → Re → Item → Type 0
CoversItem V table re item = CoversBody V table re (λ s. item_ways s item)

abbrev pub CoversTest : View → Table → Re → Test → Type 0
CoversTest V table re t = CoversItem V table re (One t)

-- from a position without a match of the pattern a body has no way
abbrev pub Fronts : Subject → List ℕ → (ℕ → ℕ) → Re → Body → Type 0
Fronts s hay off re body =
    (p : ℕ) (m : Marks) → p ≤ s.end → ((j : ℕ) → ¬ (Matches hay re (off p) j)) → body p m ≡ []

-- on each text that is seen so no way of the tree begins where the pattern has no match
pub record CoversStart (V : View) (table : Table) (re : Re) (t : Tree) : Type 0 where
  pub covers : (s : Subject) (hay : List ℕ) (off : ℕ → ℕ) → V s hay off → s.table ≡ table
      → Fronts s hay off re (ways s t)

-- a position of a text of bytes is a byte's place
abbrev pub place : ℕ → ℕ
place p = p

-- What a search through a text reads: the window's end cuts it off, and the window's start does not.
abbrev pub read_bytes : Subject → List ℕ
read_bytes s = take s.end s.text

abbrev pub read_utf8 : List ℕ → ℕ → List ℕ
read_utf8 text end = take (offset_of text end) text

-- what follows, tried from the end of each of some ways in turn
abbrev pub tried : (ℕ → ℕ) → Rest → List Way → Option Trace
tried off k [] = None
tried off k (w ∷ ws) = option_or (k (off w.stop)) (tried off k ws)

-- whatever follows, the pattern goes on to it from the end of each way of a body in turn, and from nowhere else
abbrev pub Exact : Subject → List ℕ → (ℕ → ℕ) → Re → Body → Type 0
Exact s hay off re body =
    (k : Rest) (p : ℕ) (m : Marks) → p ≤ s.end → attempt hay re k (off p) ≡ tried off k (body p m)

-- a position stands at a byte
abbrev pub IsPlace : Subject → (ℕ → ℕ) → ℕ → Type 0
IsPlace s off i = (p : ℕ) × (p ≤ s.end) × (off p ≡ i)

-- a match of the pattern begins where a position stands, unless it is empty
abbrev pub AtPlaces : Subject → List ℕ → (ℕ → ℕ) → Re → Type 0
AtPlaces s hay off re = (i j : ℕ) → Matches hay re i j → (j ≡ i) ⊎ IsPlace s off i

-- on each text that is seen so, for a body, a tree, an item or a test
pub record ExactBody (V : View) (table : Table) (re : Re) (body : Subject → Body) : Type 0 where
  pub tries : (s : Subject) (hay : List ℕ) (off : ℕ → ℕ) → V s hay off → s.table ≡ table
      → Exact s hay off re (body s)
  pub begins : (s : Subject) (hay : List ℕ) (off : ℕ → ℕ) → V s hay off → AtPlaces s hay off re

abbrev pub ExactTree : View → Table → Re → Tree → Type 0
ExactTree V table re t = ExactBody V table re (λ s. ways s t)

abbrev pub ExactItem : View → Table → Re → Item → Type 0
ExactItem V table re item = ExactBody V table re (λ s. item_ways s item)

abbrev pub ExactTest : View → Table → Re → Test → Type 0
ExactTest V table re t = ExactItem V table re (One t)

-- a later position stands at a later byte
abbrev pub Rises : View → Type 0
Rises V =
    (s : Subject) (hay : List ℕ) (off : ℕ → ℕ) → V s hay off → (p q : ℕ) → p < q → q ≤ s.end → off p < off q

-- counts in order that are all kept, the greatest one unless there is no limit
abbrev pub AreKept : ℕ → ℕ → ℕ → Type 0
AreKept kept low high = (low ≤ high) × (low ≤ kept) × ((high ≤ kept) ⊎ (high ≡ unlimited))
