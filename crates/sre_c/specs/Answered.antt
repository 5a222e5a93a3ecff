-- What an export reports of a match: a status, the match, and what is left of the call's steps.
-- Public clauses rest on it.
use Rattle.std.specs.Prelude.{ℕ, ◌≡◌, ◌≤◌, ◌+◌, ◌-◌, ◌*◌, ◌^◌, List, [], ◌∷◌, Bool, true, Option, Some, Result, Ok, ◌<◌}
use Rattle.std.specs.Prelude.{length, slice_index, false, cond, None}
use Rattle.sre_c.specs.Terms.{Status, No, Yes, StepLimit, Memory, NoCode, NoRoom, NotUtf8, FaultyTable, Global, Asked}
use Rattle.sre_c.specs.Terms.{Match, asked_after, words_of, SreError, KeepsToSteps, Code, Tree, Whole, IsCode, mark_at}
use Rattle.sre_c.specs.Terms.{Refused}
use Rattle.sre_c.specs.declared.code.SreCode.{SreCode}
use Rattle.sre_c.specs.declared.types.SreAsked.{SreAsked}
use Rattle.sre_c.specs.declared.types.SreFound.{SreFound}
use Rattle.sre_c.specs.Known.{table_in}
use Rattle.sre_c.specs.Checked.{IsFaulty}
use Rattle.sre_c.specs.Given.{asked_in, model_of, OfTree, IsEnough}

-- the number of a status
abbrev pub status_number : Status → ℕ
status_number No = 0
status_number Yes = 1
status_number StepLimit = 2
status_number Memory = 3
status_number NoCode = 4
status_number NoRoom = 5
status_number NotUtf8 = 6
status_number FaultyTable = 7

-- a number is that of a status, which says so much
pub record Tells (number : ℕ) (says : Status → Type 0) : Type 0 where
  pub status : Status
  pub numbered : status_number status ≡ number
  pub said : says status

-- the steps of a call without a limit
abbrev pub no_limit : ℕ
no_limit = 2 ^ 64 - 1

-- of a budget a search leaves what the engine says. It runs the machine at most twice from each start up to the last
pub record KeepsBudget (words : List ℕ) (a : Asked) (last : ℕ) (told : Result (Option Bool) SreError) (given left : ℕ)
    : Type 0 where
  pub code : Code
  pub own : words_of code ≡ words
  pub runs : ℕ
  pub few : runs ≤ 2 * (last + 1 - a.start)
  pub kept : KeepsToSteps Global a code told runs given left

-- of a budget the searches for the next matches leave what the engine says, one after the other, each up to its match
abbrev pub KeepBudget : List ℕ → Asked → List Match → ℕ → ℕ → Type 0
KeepBudget words a [] given left = left ≡ given
KeepBudget words a (m ∷ ms) given left =
    (between : ℕ) × KeepsBudget words a m.start (Ok (Some true)) given between
    × KeepBudget words (asked_after a m) ms between left

-- a mark as a number: the greatest of 64 bits where it is not set
abbrev pub mark_number : Option ℕ → ℕ
mark_number (Some p) = p
mark_number None = 2 ^ 64 - 1

-- the numbers that tell of a match
pub record IsFound (m : Match) (f : SreFound) : Type 0 where
  pub start : f.start ≡ m.start
  pub end : f.end ≡ m.end
  pub last : f.last_index ≡ m.marks.last
  pub count : f.marks ≡ length m.marks.raw

-- and its marks, which stand in front
pub record IsTold (m : Match) (f : SreFound) (marks : List ℕ) : Type 0 where
  pub found : IsFound m f
  pub each : (q : ℕ) → q < length m.marks.raw → slice_index marks q ≡ mark_number (mark_at m.marks q)

-- the match that there is
pub record HasMatch (o : Option Match) (says : Match → Type 0) : Type 0 where
  pub match : Match
  pub there : o ≡ Some match
  pub said : says match

-- the last start of a search, or the only one of a match
abbrev pub last_start : Bool → Asked → ℕ
last_start search a = cond search a.end a.start

-- what is left of the steps once it is known whether there is a match, or the step limit was exceeded
abbrev pub LeavesSteps : SreCode → List ℕ → SreAsked → Option Bool → ℕ → Type 0
LeavesSteps c text a told left =
    let asked : Asked = asked_in a (table_in c.table.now) text in
    KeepsBudget c.words.now asked (last_start a.search asked) (Ok told) a.steps left

-- the answer for the characters of a text, with room for so many marks; the step limit is exceeded only if no step is
-- left, and not within a sufficient budget, unless an allocation failed
abbrev pub Answers : Status → SreCode → List ℕ → SreAsked → ℕ → SreFound → List ℕ → Type 0
Answers No c text a room f marks =
    IsCode c.words.now × OfTree c a text (λ asked t. model_of a asked t ≡ None)
    × LeavesSteps c text a (Some false) f.steps
Answers Yes c text a room f marks =
    IsCode c.words.now × OfTree c a text (λ asked t. HasMatch (model_of a asked t) (λ m. IsTold m f marks))
    × LeavesSteps c text a (Some true) f.steps
Answers NoRoom c text a room f marks =
    IsCode c.words.now × OfTree c a text (λ asked t. HasMatch (model_of a asked t) (λ m. IsFound m f))
    × (room < f.marks) × LeavesSteps c text a (Some true) f.steps
Answers StepLimit c text a room f marks =
    IsCode c.words.now × (f.steps ≡ 0)
    × (IsEnough c.words.now (asked_in a (table_in c.table.now) text) a.steps → Refused Global)
    × LeavesSteps c text a None f.steps
Answers Memory c text a room f marks = Refused Global
Answers NoCode c text a room f marks = ((t : Tree) → (Whole c.words.now t → ⊥)) × (f.steps ≡ a.steps)
Answers FaultyTable c text a room f marks = IsFaulty c.table.now × (f.steps ≡ a.steps)
Answers NotUtf8 c text a room f marks = ⊥
