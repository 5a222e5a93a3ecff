-- What a check has reported of lists and bytecode.
-- Public clauses rest on it.
use Rattle.std.specs.Prelude.{ℕ, ◌≡◌, false, List, cond, Some, None}
use Rattle.sre_c.specs.Terms.{Table, lent_table, Tree, Whole, refers, asked_from, longest_lookbehind, Confirmed, Hints}
use Rattle.sre_c.specs.declared.types.SreTable.{SreTable}
use Rattle.sre_c.specs.declared.types.SreHints.{SreHints}

-- the table of the lists
abbrev pub table_in : SreTable → Table
table_in t = lent_table t.lower.now t.upper.now t.alnum.now t.digits.now

-- the hints of a code, from those that cross to C
abbrev pub hints_told : SreHints → Hints
hints_told h = record {
  width = cond h.has_width (Some h.width) None;
  prefix = cond h.has_prefix (Some (h.prefix, h.prefix_skip)) None;
  literal = h.literal;
  first_set = h.first_set;
}

-- each hint is there exactly where the tree confirms it, and the numbers are the tree's
pub record AreHints (words : List ℕ) (table : Table) (t : Tree) (h : SreHints) : Type 0 where
  pub confirmed : Confirmed words table t (hints_told h)
  pub reference : h.refers ≡ refers t
  pub asked : h.asked_from ≡ asked_from t
  pub counts : refers t ≡ false → h.longest_lookbehind ≡ longest_lookbehind t

-- words are a code, whose hints are these
pub record IsKnown (words : List ℕ) (table : Table) (h : SreHints) : Type 0 where
  pub tree : Tree
  pub whole : Whole words tree
  pub hints : AreHints words table tree h
