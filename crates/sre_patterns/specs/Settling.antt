-- From which character on a test, or a set, gives one answer.
use Rattle.std.specs.Prelude.{ℕ, ◌≡◌, ◌≤◌, ◌<◌, Bool, List}
use Rattle.sre_patterns.specs.Terms.{Table, HasSet, SetItem, verdict, SetStands}

-- from a number on a test has the same answer
abbrev pub SettledFrom : ℕ → (ℕ → Bool) → Type 0
SettledFrom from test = (c : ℕ) → from ≤ c → test c ≡ test from

-- so has the verdict of each set that stands at i, whatever was turned over before
pub record SettledSet (ws : List ℕ) (i from : ℕ) : Type 0 where
  pub each : (table : Table) (j : ℕ) (set : List SetItem) → SetStands ws i j set → (taken : Bool)
      → SettledFrom from (λ c. verdict table taken set c)

-- as soon as the verdict of what is left of it at `next` has, from a number on
pub record SettlesBehind (ws : List ℕ) (i next from : ℕ) : Type 0 where
  pub later : i < next
  pub there : HasSet ws i → HasSet ws next
  pub each : (b : ℕ) → from ≤ b → SettledSet ws next b → SettledSet ws i b
