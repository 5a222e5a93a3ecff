-- How a text is seen as bytes up to a position.
-- Definitions for the contracts of this crate.
use Rattle.std.specs.Prelude.{ℕ, ◌≡◌, ◌≤◌, List, length}
use Rattle.sre_finder.specs.Terms.{view_of, Encoding}
use Rattle.sre_model.specs.Subject.{Subject}

-- the bytes up to a position of a text, where `place` tells at which byte a position stands
pub record SeenAs (encoding : Encoding) (text : List ℕ) (place : ℕ → ℕ) (end : ℕ) (hay : List ℕ) : Type 0 where
  pub seen : (s : Subject) → s.text ≡ text → s.end ≡ end → view_of encoding s hay place
  pub order : (p q : ℕ) → p ≤ q → q ≤ end → place p ≤ place q
  pub whole : place end ≡ length hay
