-- The step bound as it is computed: by its parts, and where it takes more than 64 bits.
-- Definitions for the check's contracts; what sre_engine makes public does not rest on it.
use Rattle.std.specs.Prelude.{ℕ, ◌+◌, ◌*◌, ◌/◌, ◌^◌, ◌≡◌, ◌<◌, ◌≤◌, true, false, max, Option, Some, None}
use Rattle.sre_code.specs.Terms.{Tree, refers, has_forked_region, marks_in_regions, most_slots, sides}
use Rattle.sre_code.specs.Prices.{cost_at}
use Rattle.sre_code.specs.StepBounds.{IsStepBound, HasNoStepBound}
use Rattle.sre_code.specs.declared.code.bounds.Counted.{Counted}
use Rattle.sre_code.specs.declared.code.prices.Prices.{Prices}

-- the tree has no references, where a region forks none sets a mark, and the slots are no more than may be told apart
pub record IsCounted (t : Tree) : Type 0 where
  pub unmarked : has_forked_region t ≡ true → marks_in_regions t ≡ false
  pub no_reference : refers t ≡ false
  pub few : most_slots t ≤ 2 ^ 24

-- the slots and sides of such a tree; or that it is none
abbrev pub CountedTold : Tree → Option Counted → Type 0
CountedTold t (Some c) = IsCounted t × (c.slots ≡ most_slots t) × (c.sides ≡ sides t)
CountedTold t None = IsCounted t → ⊥

-- how many words of bits the failures at all places may take
abbrev pub room_by : ℕ → ℕ → ℕ → ℕ
room_by places positions slots = places * (slots * 2 * positions / 64 + 1)

-- all bits of a place are kept: it has few slots, or few words
abbrev pub AreWhole : ℕ → ℕ → Type 0
AreWhole positions slots = 4096 < slots → slots * 2 * positions / 64 + 1 ≤ 2 ^ 24

-- the step bound of so many positions, by the most steps before an instruction that may branch, by what these cost on
-- all sides, and by how far lookbehinds go back
abbrev pub bound_by : ℕ → ℕ → ℕ → ℕ → ℕ
bound_by positions most cost longest = positions * (32 + (1 + most + cost) * (1 + longest / 8))

-- the same by prices
abbrev pub bound_of : Prices → ℕ → ℕ → ℕ → ℕ
bound_of p sides longest positions =
    bound_by positions (max (p.since + 2) p.most) ((cost_at p.all 2 + p.all.apart) * sides) longest

-- one more, where there is room and it takes no more than 64 bits
abbrev pub NumberBy : ℕ → ℕ → ℕ → ℕ → Option ℕ → Type 0
NumberBy places slots bound characters (Some steps) =
    (room_by places (characters + 1) slots ≤ 2 ^ 30) × AreWhole (characters + 1) slots × (steps ≡ bound + 1)
NumberBy places slots bound characters None =
    room_by places (characters + 1) slots ≤ 2 ^ 30 → AreWhole (characters + 1) slots → 2 ^ 64 ≤ bound + 1

-- the number of a tree, or that it has none
abbrev pub BoundTold : ℕ → Tree → ℕ → Option ℕ → Type 0
BoundTold places t characters (Some steps) = IsStepBound places t characters steps
BoundTold places t characters None = HasNoStepBound places t characters
