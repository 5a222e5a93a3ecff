-- What a search that is limited costs at most, where no allocation fails.
-- Definitions for the contracts inside this crate; what it makes public does not rest on it.
use Rattle.std.specs.declared.alloc.Allocator.{Ghosts as Memory}
use Rattle.std.specs.Prelude.{ℕ, ◌+◌, ◌*◌, ◌≤◌, ◌≡◌, ◌⊎◌, Bool, true, Result, IfErr}
use Rattle.sre_engine.specs.Terms.{Ghosts, Refused, Request, code_of, asked_of, run_of, most_steps, is_limited, left_of}
use Rattle.sre_engine.specs.Terms.{Halted, Allowance, Halt, Remembering, rows_from, each_of, most_paid, window_of}
use Rattle.sre_engine.specs.Counts.{SpentUpTo}

-- what so many runs count for at most, by the credits that are granted to them
abbrev pub search_cost : {S : Type 0} {text : Ghosts S} (r : Request S text) → Remembering r → ℕ → ℕ → ℕ
search_cost r pl runs tolls = (runs * (1 + most_steps pl.plain.tree) + tolls) * each_of r pl

-- how many credits are granted at most from where a memo begins
abbrev pub most_tolls : {S : Type 0} {text : Ghosts S} (r : Request S text) → Remembering r → ℕ
most_tolls r pl = most_paid (run_of r) pl.plain (rows_from r pl)

-- how many steps a memo waits at most before failures are memoized
abbrev pub most_waits : {S : Type 0} {text : Ghosts S} → Request S text → ℕ
most_waits r = 32 * (window_of r + 1)

-- a search, whatever it tells: how many steps it takes at most, where no allocation fails. They cost no more than what
-- its memo waits, and the credits that it pays
pub record SearchCosts (M : Type 0) {S : Type 0} {text : Ghosts S} (r : Request S text)
    (given left runs : ℕ) : Type 0 where
  pub cost : (pl : Remembering r)
      → Refused M ⊎ (given ≤ left + most_waits r + search_cost r pl runs (most_tolls r pl))

-- what a search of so many starts and runs charges
pub record Charged {M S : Type 0} {memory : Memory M} {text : Ghosts S} (r : Request S text)
    (told : Result Bool (Halt M memory)) (started runs : ℕ) (a a' : Allowance) : Type 0 where
  pub limited : is_limited a' ≡ is_limited a
  pub fewer : left_of a' ≤ left_of a
  pub spent : SpentUpTo (asked_of r) (code_of r) (left_of a) (left_of a') runs
  pub halted : IfErr told (Halted a')
  pub cost : is_limited a ≡ true → SearchCosts M r (left_of a) (left_of a') started
