-- What is known of a code.
-- Public clauses rest on it.
use Rattle.std.specs.Prelude.{◌≡◌, ◌↔◌, IsTrue, ℕ, List}
use Rattle.sre_code.specs.Terms.{Table, Tree, confirmed_width, is_literal, HasFirstSet}
use Rattle.sre_model.specs.Claims.{confirmed_prefix}
use Rattle.sre_code.specs.declared.code.Hints.{Hints}

-- each hint is there exactly where the tree confirms it; a set's members are those by the code's table
pub record Confirmed (words : List ℕ) (table : Table) (tree : Tree) (hints : Hints) : Type 0 where
  pub width : hints.width ≡ confirmed_width words tree
  pub prefix : hints.prefix ≡ confirmed_prefix words tree
  pub literal : hints.literal ≡ is_literal words tree
  pub first_set : IsTrue hints.first_set ↔ HasFirstSet words table tree
