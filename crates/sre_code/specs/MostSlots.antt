-- How many counter states the loops of a code have, if it has no back-references or conditionals.
-- Public clauses rest on it.
use Rattle.std.specs.Prelude.{ℕ, ◌^◌, ◌≡◌, ◌<◌, ◌≤◌, true, false, Option, Some, None}
use Rattle.sre_code.specs.Terms.{Tree, refers, has_forked_region, marks_in_regions, most_slots}

-- the tree has no references, where a region forks none sets a mark, and its loops have so many slots at most, which
-- are no more than may be told apart
pub record AreMostSlots (n : ℕ) (t : Tree) : Type 0 where
  pub unmarked : has_forked_region t ≡ true → marks_in_regions t ≡ false
  pub no_reference : refers t ≡ false
  pub is : n ≡ most_slots t
  pub few : n ≤ 2 ^ 24

-- the tree has such a mark, a reference, or more slots than may be told apart
pub record HasTooManySlots (t : Tree) : Type 0 where
  pub more :
      (has_forked_region t ≡ true → marks_in_regions t ≡ false) → refers t ≡ false → 2 ^ 24 < most_slots t

-- what is told of a tree's slots
abbrev pub SlotsTold : Tree → Option ℕ → Type 0
SlotsTold t (Some n) = AreMostSlots n t
SlotsTold t None = HasTooManySlots t
