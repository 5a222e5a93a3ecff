-- Which ASCII characters the items of a set take.
-- Definitions for the check's contracts; what sre_engine makes public does not rest on it.
use Rattle.std.specs.Prelude.{ℕ, ◌≡◌, ◌<◌, Bool, true, ◌&&◌, ◌||◌, List, Option, Some, None}
use Rattle.sre_code.specs.Terms.{Table, SetItem, is_member, SetStands, ItemSays, verdict}
use Rattle.sre_code.specs.AsciiSet.{contains}
use Rattle.sre_code.specs.declared.ascii_set.AsciiSet.{AsciiSet}

-- the item at i holds for the ASCII characters of a set, and the next one begins at next
pub record HoldsFor (ws : List ℕ) (i : ℕ) (members : AsciiSet) (next : ℕ) : Type 0 where
  pub each : (table : Table) (c : ℕ) → c < 128 → ItemSays ws table i c (contains members c) next

-- a set at start takes the ASCII characters of members, and those of left that what is left of it at i takes
pub record AsciiLeft (ws : List ℕ) (start i : ℕ) (taken : Bool) (members left : AsciiSet) : Type 0 where
  pub each : (table : Table) (c : ℕ) → c < 128 → (j : ℕ) (set : List SetItem) → SetStands ws start j set
      → (rest : List SetItem) × SetStands ws i j rest
      × (verdict table true set c ≡ contains members c || (contains left c && verdict table taken rest c))

-- the ASCII characters that a set at i takes, where they are told
pub record AreMembers (ws : List ℕ) (i : ℕ) (members : AsciiSet) : Type 0 where
  pub each : (table : Table) (j : ℕ) (set : List SetItem) → SetStands ws i j set → (c : ℕ) → c < 128
      → contains members c ≡ is_member table set c

abbrev pub AreTold : List ℕ → ℕ → Option AsciiSet → Type 0
AreTold ws i None = Unit {0}
AreTold ws i (Some members) = AreMembers ws i members
