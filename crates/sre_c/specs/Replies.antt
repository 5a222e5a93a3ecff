-- What the engine answers a request, and what a status says of that.
-- Definitions for the contracts inside this crate; what it makes public does not rest on it.
use Rattle.std.specs.Prelude.{ℕ, ◌≡◌, ◌<◌, List, Bool, true, false, cond, Option, Some, None, Result, Ok, IfOk, IfSome}
use Rattle.std.specs.Prelude.{OnErr, Err}
use Rattle.sre_c.specs.Terms.{Global, Tree, Whole, Asked, Match, matched, found, Refused, SreError, Shown, match_shown}
use Rattle.sre_c.specs.Terms.{answer_of, Status, No, Yes, StepLimit, Memory, NoCode, NoRoom, NotUtf8, FaultyTable}
use Rattle.sre_c.specs.declared.types.SreFound.{SreFound}
use Rattle.sre_c.specs.Answered.{IsFound, IsTold, last_start, no_limit, KeepsBudget}

-- the answer of a call without a step limit, which cannot exceed it
abbrev pub told_of : {E : Type 0} → Result Bool E → Result (Option Bool) E
told_of (Ok b) = Ok (Some b)
told_of (Err e) = Err e

-- what the engine answers a search or a match, with the state and the steps that it leaves
pub record Finds (words : List ℕ) (a : Asked) (search : Bool) (told : Result (Option Bool) SreError) (s : Shown)
    (given left : ℕ) : Type 0 where
  pub answer : (t : Tree) → Whole words t → IfOk told (λ told. IfSome told (λ b.
      answer_of b s ≡ cond search (found a t) (matched a t)))
  pub steps : KeepsBudget words a (last_start search a) told given left
  pub unlimited : given ≡ no_limit → left ≡ given
  pub memory : OnErr told (Refused Global)

-- what a status says of an answer and of the match that the state shows, with room for so many marks
abbrev pub IsReply : Status → Result (Option Bool) SreError → Match → ℕ → SreFound → List ℕ → Type 0
IsReply No told m room f marks = told ≡ Ok (Some false)
IsReply Yes told m room f marks = (told ≡ Ok (Some true)) × IsTold m f marks
IsReply NoRoom told m room f marks = (told ≡ Ok (Some true)) × IsFound m f × (room < f.marks)
IsReply StepLimit told m room f marks = told ≡ Ok None
IsReply Memory told m room f marks = Refused Global
IsReply NoCode told m room f marks = ⊥
IsReply FaultyTable told m room f marks = ⊥
IsReply NotUtf8 told m room f marks = ⊥

-- the same of some answer and state
pub record Replies (words : List ℕ) (a : Asked) (search : Bool) (status : Status) (given room : ℕ) (f : SreFound)
    (marks : List ℕ) : Type 0 where
  pub told : Result (Option Bool) SreError
  pub shown : Shown
  pub finds : Finds words a search told shown given f.steps
  pub reply : IsReply status told (match_shown shown) room f marks
