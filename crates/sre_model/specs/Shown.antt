-- Short names for worked rows: trees, texts, requests and answers.
use Rattle.std.specs.Prelude.{ℕ, List, [], ◌∷◌, length, false, Option, Some, ℤ, pos}
use Rattle.sre_chars.specs.declared.constants.EmptyRule.TheVariants.{Never}
use Rattle.sre_chars.specs.Tables.{ascii_table}
use Rattle.sre_model.specs.Tree.{Tree, Empty, Then, Item, One, Test, Literal, Plain}
use Rattle.sre_model.specs.Marks.{no_marks}
use Rattle.sre_model.specs.Found.{Asked, Match}

-- items, one after the other
abbrev pub items : List Item → Tree
items [] = Empty
items (i ∷ is) = Then i (items is)

abbrev pub is_a : Test
is_a = Literal Plain 97

abbrev pub is_b : Test
is_b = Literal Plain 98

abbrev pub a : Item
a = One is_a

abbrev pub b : Item
b = One is_b

abbrev pub c : Item
c = One (Literal Plain 99)

abbrev pub d : Item
d = One (Literal Plain 100)

-- a window of a text, without flags, in which no non-boundary is on nothing
abbrev pub window : List ℕ → ℕ → ℕ → Asked
window text start end = record {
  text = text;
  table = ascii_table;
  start = start;
  end = end;
  match_all = false;
  must_advance = false;
  empty_rule = Never;
}

-- the whole text, without flags
abbrev pub whole : List ℕ → Asked
whole text = window text 0 (length text)

-- a match without marks
abbrev pub span : ℕ → ℕ → Match
span start end = record { start = start; end = end; marks = no_marks }

-- a match with these marks and this last index
abbrev pub marked : ℕ → ℕ → List (Option ℕ) → ℤ → Match
marked start end raw last = record { start = start; end = end; marks = record { raw = raw; last = last } }

-- the marks of one group that is set
abbrev pub grouped : ℕ → ℕ → ℕ → ℕ → Match
grouped start end from to = marked start end (Some from ∷ Some to ∷ []) (pos 1)
