-- What a search takes from confirmed search hints.
-- Definitions for the search's contracts; what sre_engine makes public does not rest on it.
use Rattle.std.specs.Prelude.{ℕ, ◌+◌, ◌*◌, ◌^◌, ◌≡◌, ◌<◌, ◌≤◌, Bool, true, List, length, Option, Some, None}
use Rattle.sre_engine.specs.Terms.{Tree, Whole, Asked, at_start, spells, behind_items, is_empty, words_of, hints_of}
use Rattle.sre_engine.specs.Terms.{prefix_of, Code}

-- the words of the confirmed prefix, and how many of them are literals one directly after the other
pub record IsPrefix (code : Code) (words : List ℕ) (literals : ℕ) (whole : Bool) : Type 0 where
  pub hint : (hints_of code).prefix ≡ Some (length words, literals)
  pub all : whole ≡ (hints_of code).literal
  pub is : words ≡ prefix_of (words_of code) (length words)
  pub few : literals ≤ length words
  pub small : 2 * literals < 2 ^ 64
  pub spelled : (t : Tree) → Whole (words_of code) t → spells literals t words ≡ true
  pub rest : whole ≡ true → (t : Tree) → Whole (words_of code) t
      → (literals ≡ length words) × (is_empty (behind_items literals t) ≡ true)

-- a start is not behind the last one
abbrev pub FitsAt : Option ℕ → ℕ → Type 0
FitsAt None s = ⊥
FitsAt (Some last) s = s ≤ last

-- at a start that is not behind the last one a confirmed width fits; behind it there is no match
pub record IsLast (a : Asked) (code : Code) (last : Option ℕ) : Type 0 where
  pub fits : (s : ℕ) → FitsAt last s → (w : ℕ) → (hints_of code).width ≡ Some w → s + w ≤ a.end
  pub narrow : (t : Tree) → Whole (words_of code) t → (s : ℕ) → ¬ (FitsAt last s) → s ≤ a.end → at_start a t s ≡ None
