-- What a search counts at most.
-- Public clauses rest on it.
use Rattle.std.specs.Prelude.{ℕ, ◌+◌, ◌-◌, ◌*◌, ◌≡◌, ◌<◌, ◌≤◌, ◌⊎◌, ◌&&◌, ◌||◌, nat_le, Bool, true, false, not, List}
use Rattle.std.specs.Prelude.{length, Option, Some, None, Result, IfOk}
use Rattle.sre_engine.specs.Terms.{Refused, Tree, SetItem, Whole, RunsWithin, Asked, subject_of, stands_at, how_many}
use Rattle.sre_engine.specs.Terms.{IsRemembered, step_bound, words_of, items_of, hints_of, prefix_of, Code, Hints}
use Rattle.sre_engine.specs.Answers.{Shown}
use Rattle.sre_engine.specs.Members.{IsFirstSet, is_among}

-- whether a confirmed width fits between a start and the range's end
abbrev pub width_fits : Asked → Option ℕ → ℕ → Bool
width_fits a None p = true
width_fits a (Some w) p = nat_le (p + w) a.end

-- whether a confirmed prefix stands at a start
abbrev pub prefix_stands : Asked → List ℕ → Option (ℕ × ℕ) → ℕ → Bool
prefix_stands a words None p = true
prefix_stands a words (Some (l, k)) p = stands_at (subject_of a) (prefix_of words l) p

-- whether a run may begin at a start: a confirmed width fits there, a confirmed prefix stands there and is not all of
-- the code, and with a confirmed first set the character there is a member
abbrev pub may_start : Asked → List ℕ → Hints → List SetItem → ℕ → Bool
may_start a words hints set p =
    width_fits a hints.width p && prefix_stands a words hints.prefix p && not hints.literal
    && (not hints.first_set || is_among a set p)

-- of a search that looked at starts before `to`, and at characters before `seen`: it began no more runs than there are
-- starts at which one may begin; and it compared no character more than twice on average, and none where no prefix is
-- confirmed
pub record CountsUpTo (a : Asked) (code : Code) (to seen : ℕ) (s : Shown) : Type 0 where
  pub started : (set : List SetItem) → ((hints_of code).first_set ≡ true → IsFirstSet (words_of code) set)
      → s.started ≤ how_many (may_start a (words_of code) (hints_of code) set) a.start
      (to - a.start)
  pub compared : s.compared ≤ 2 * (seen - a.start)
  pub uncompared : (hints_of code).prefix ≡ None → s.compared ≡ 0

-- of the steps of a walk together, which looked at starts before `to`, and at characters before `seen`, and gave so
-- many matches: they began no more runs than there are starts at which one may begin, and one more for each match,
-- since where it was empty the next step begins at its start; and comparisons are bounded as those of one search are
pub record StepsCount (a : Asked) (code : Code) (to seen matches started compared : ℕ) : Type 0 where
  pub runs : (set : List SetItem) → ((hints_of code).first_set ≡ true → IsFirstSet (words_of code) set)
      → started ≤ how_many (may_start a (words_of code) (hints_of code) set) a.start (to - a.start) + matches
  pub comparisons : compared ≤ 2 * (seen - a.start)
  pub uncompared : (hints_of code).prefix ≡ None → compared ≡ 0

-- what a state shows of the counts of a whole walk
abbrev pub CountsOfWalk : Asked → Code → ℕ → Shown → Type 0
CountsOfWalk a code matches s = StepsCount a code (a.end + 1) a.end matches s.started s.compared

-- what the last search counted stays
pub record CountsStay (s s' : Shown) : Type 0 where
  pub compared : s'.compared ≡ s.compared
  pub started : s'.started ≡ s.started
  pub restarted : s'.restarted ≡ s.restarted

-- how many runs of the machine a search began
abbrev pub runs_of : Shown → ℕ
runs_of s = s.started + s.restarted

-- of runs some began again: no more than there were, and none without a limit
pub record BeginsAgain (limited : Bool) (s : Shown) : Type 0 where
  pub few : s.restarted ≤ s.started
  pub never : limited ≡ false → s.restarted ≡ 0

-- of the steps of a budget, those that are left are no fewer than those that so many runs of the machine leave
pub record SpentUpTo (a : Asked) (code : Code) (given left runs : ℕ) : Type 0 where
  pub each : (t : Tree) → Whole (words_of code) t → (most : ℕ) → RunsWithin a t most → given ≤ left + runs * most

-- so many steps suffice for an answer, unless an allocation fails: each failure of the code is memoized, and they are
-- more than its step bound
pub record AreEnough (a : Asked) (code : Code) (steps : ℕ) : Type 0 where
  pub tree : Tree
  pub whole : Whole (words_of code) tree
  pub remembered : IsRemembered (length (items_of code)) tree a
  pub more : step_bound tree a < steps

-- what a search within a budget of steps does with it: without an answer no step is left; the steps that are left are
-- no fewer than those that so many runs of the machine leave, and none is added. If each failure of the code is
-- memoized, it takes at most the step bound, whatever the budget and the answer are, unless an allocation by an M
-- failed; so a sufficient budget is exceeded only if one failed
pub record KeepsToSteps (M : Type 0) {E : Type 0} (a : Asked) (code : Code) (told : Result (Option Bool) E)
    (runs given left : ℕ) :
    Type 0 where
  pub used : IfOk told (λ b. b ≡ None → left ≡ 0)
  pub spent : SpentUpTo a code given left runs
  pub fewer : left ≤ given
  pub bounded : (t : Tree) → Whole (words_of code) t → IsRemembered (length (items_of code)) t a
      → Refused M ⊎ (given ≤ left + step_bound t a)
  pub enough : AreEnough a code given → IfOk told (λ b. b ≡ None → Refused M)
