-- What an iteration within bounds takes of them.
-- Of the meaning: what sre_recipes makes public rests on it.
use Rattle.std.specs.Prelude.{◌≡◌, ◌≤◌, ℕ, ◌+◌, ◌-◌, Bool, true, false, List, [], ◌∷◌, ◌++◌, length, Option, Some, None}
use Rattle.std.specs.Prelude.{IfSome, IsSome, Ok, min, ◌*◌, ◌⊎◌}
use Rattle.sre_recipes.specs.Terms.{Refused, Code, Tree, Whole, Asked, Match, walk, words_of, Shown, MayTakeMemory}
use Rattle.sre_recipes.specs.Terms.{SreError, asked_after, items_of}
use Rattle.sre_model.specs.Anchors.{is_anchored}
use Rattle.sre_engine.specs.StepBounds.{IsWindow, IsStepBound}
use Rattle.sre_engine.specs.WalkBounds.{most_matches}
use Rattle.sre_engine.specs.Counts.{CountsUpTo, KeepsToSteps, runs_of}
use Rattle.sre_recipes.specs.declared.bounds.Bounds.{Bounds}
use Rattle.sre_recipes.specs.Bounded.{first_of}

-- the limit on matches after so many
abbrev pub less_by : Option ℕ → ℕ → Option ℕ
less_by None n = None
less_by (Some most) n = Some (most - n)

-- one search within a budget of steps, which looked at starts before `to` and at characters before `seen`: the runs of
-- the machine that it counted, and what these left of the budget. It found a match, none, or exceeded the step limit
pub record SearchSpends (M : Type 0) (a : Asked) (code : Code) (to seen : ℕ) (told : Option Bool)
    (given left : ℕ) : Type 0 where
  pub shown : Shown
  pub counts : CountsUpTo a code to seen shown
  pub anchored : (t : Tree) → Whole (words_of code) t → is_anchored t ≡ true → shown.started ≤ 1
  pub again : shown.restarted ≤ shown.started
  pub keeps : KeepsToSteps M {E = SreError} a code (Ok told) (runs_of shown) given left
  pub literal : told ≡ None → MayTakeMemory code

-- the same where there may be no step limit: then none is exceeded, and there stays none
abbrev pub Spends : Type 0 → Asked → Code → ℕ → ℕ → Option Bool → Option ℕ → Option ℕ → Type 0
Spends M a code to seen told None left = IsSome told × (left ≡ None)
Spends M a code to seen told (Some given) None = ⊥
Spends M a code to seen told (Some given) (Some left) = SearchSpends M a code to seen told given left

-- the searches of an iteration share a budget, each from the end of the match before: one finds each match, and the
-- last one none, unless it exceeds the step limit or no more matches are wanted
abbrev pub AllSpend : Type 0 → Asked → Code → List Match → Bool → Option ℕ → Option ℕ → Type 0
AllSpend M a code [] true given left = Spends M a code (a.end + 1) a.end None given left
AllSpend M a code [] false given left = (left ≡ given) ⊎ Spends M a code (a.end + 1) a.end (Some false) given left
AllSpend M a code (m ∷ ms) exceeded given left =
    (between : Option ℕ) × Spends M a code (m.start + 1) m.end (Some true) given between
    × AllSpend M (asked_after a m) code ms exceeded between left

-- how many searches an iteration makes at most: one for each match that is wanted, and one that finds none
abbrev pub most_searches : Option ℕ → Asked → ℕ
most_searches None a = most_matches a + 1
most_searches (Some most) a = min most (most_matches a + 1)

-- a budget is ample for an iteration: each of its searches may take the step bound of a text of so many characters
pub record IsAmple (a : Asked) (code : Code) (most steps : Option ℕ) : Type 0 where
  pub characters : ℕ
  pub bound : ℕ
  pub is : (t : Tree) → Whole (words_of code) t → IsStepBound (length (items_of code)) t characters bound
  pub window : IsWindow characters a
  pub more : IfSome steps (λ given. most_searches most a * bound ≤ given)

-- an iteration within bounds took these matches, the first of those that are wanted, and all of them unless the step
-- limit was exceeded; the limit on matches is less by their number, and the steps are those that its searches left; an
-- ample budget is exceeded only if an allocation by an M failed
pub record Followed (M : Type 0) (a : Asked) (code : Code) (most steps : Option ℕ) (after : Bounds) : Type 0 where
  pub taken : List Match
  pub first : (t : Tree) → Whole (words_of code) t → (rest : List Match)
      × (first_of most (walk a t) ≡ taken ++ rest) × (after.limit_exceeded ≡ false → rest ≡ [])
  pub fewer : after.most ≡ less_by most (length taken)
  pub spent : AllSpend M a code taken after.limit_exceeded steps after.steps
  pub enough : IsAmple a code most steps → after.limit_exceeded ≡ true → Refused M
