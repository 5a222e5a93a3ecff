-- What a pattern that owns its code shows, and what its searches ask.
-- Of the specification: what sre_recipes makes public rests on it.
use Rattle.std.specs.Prelude.{◌≤◌, ◌<◌, ℕ, List, length, min, false}
use Rattle.sre_recipes.specs.Terms.{Table, Asked, Shown}
use Rattle.sre_chars.specs.declared.constants.EmptyRule.TheVariants.{Never}

-- its words, its table, and what its state shows
pub record PatternValue : Type 0 where
  pub words : List ℕ
  pub table : Table
  pub shown : Shown

-- what a search of a text asks, between two positions
abbrev pub search_of : List ℕ → Table → ℕ → ℕ → Asked
search_of text uni start end = record {
  text = text;
  table = uni;
  start = min start (min end (length text));
  end = min end (length text);
  match_all = false;
  must_advance = false;
  empty_rule = Never;
}

-- the same from a position to the text's end
abbrev pub rest_of : List ℕ → Table → ℕ → Asked
rest_of text uni start = record {
  text = text;
  table = uni;
  start = start;
  end = length text;
  match_all = false;
  must_advance = false;
  empty_rule = Never;
}

-- the first position of a text of so many characters that begins at a byte offset or after it, where the text has as
-- many bytes
pub record FirstFrom (place : ℕ → ℕ) (count offset p : ℕ) : Type 0 where
  pub within : offset ≤ place count
  pub inside : p ≤ count
  pub reaches : offset ≤ place p
  pub first : (q : ℕ) → q < p → place q < offset
