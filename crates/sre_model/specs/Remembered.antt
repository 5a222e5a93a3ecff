-- Codes of which a search memoizes each failure, and the number of steps that suffices for them.
-- Of the specification: what sre_engine makes public rests on it.
use Rattle.std.specs.Prelude.{ℕ, ◌+◌, ◌-◌, ◌*◌, ◌^◌, ◌/◌, ◌≡◌, ◌<◌, ◌≤◌, true, false, cond, min}
use Rattle.sre_model.specs.Tree.{Tree}
use Rattle.sre_model.specs.Found.{Asked}
use Rattle.sre_model.specs.References.{refers}
use Rattle.sre_model.specs.Regions.{has_forked_region}
use Rattle.sre_model.specs.MarksSet.{marks_in_regions}
use Rattle.sre_model.specs.Slots.{most_slots}
use Rattle.sre_model.specs.LooksBehind.{backs, longest_lookbehind}
use Rattle.sre_model.specs.TreePrices.{most_steps, cost_of}

-- from which position on what failed is kept: as far before the window as looks may go back
abbrev pub kept_from : Tree → Asked → ℕ
kept_from t a = a.start - backs t

-- how many positions there are from there to the window's end, which is one of them
abbrev pub kept_positions : Tree → Asked → ℕ
kept_positions t a = a.end + 1 - kept_from t a

-- for so many words of 64 bits there has to be room at each place of the code: two bits for each slot and position
abbrev pub words_at_place : Tree → Asked → ℕ
words_at_place t a = most_slots t * 2 * kept_positions t a / 64 + 1

-- the tree has no references, and where a region forks none sets a mark; and there is room for what failed at all of so
-- many places: its loops have no more slots than may be told apart, and where these are many, a place has not too many
-- bits
pub record IsRemembered (places : ℕ) (t : Tree) (a : Asked) : Type 0 where
  pub unmarked : has_forked_region t ≡ true → marks_in_regions t ≡ false
  pub no_reference : refers t ≡ false
  pub slots : most_slots t ≤ 2 ^ 24
  pub whole : 4096 < most_slots t → words_at_place t a ≤ 2 ^ 24
  pub room : places * words_at_place t a ≤ 2 ^ 30
  pub order : a.start ≤ a.end

-- the length of the longest lookbehind, but at most that of the text
abbrev pub looks_at_most : Tree → Asked → ℕ
looks_at_most t a = min (longest_lookbehind t) a.end

-- where an atomic scope may branch, an address has configurations of its own inside of scopes, beside those outside
abbrev pub sides : Tree → ℕ
sides t = cond (has_forked_region t) 2 1

-- so many steps suffice for a search. Each position pays for those before failures are memoized, for a run that begins
-- there, and for what each instruction that may branch costs. A step that goes back by a lookbehind costs one more for
-- each eight characters
abbrev pub step_bound : Tree → Asked → ℕ
step_bound t a =
    kept_positions t a
    * (32 + (1 + most_steps t + cost_of a.end 1 t 2 * sides t) * (1 + looks_at_most t a / 8))
