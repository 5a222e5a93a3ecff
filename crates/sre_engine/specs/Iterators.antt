-- What an iterator over matches shows, and what its next item is.
-- Of the specification: what sre_engine makes public rests on it.
use Rattle.std.specs.Prelude.{◌≡◌, ◌≤◌, ℕ, ◌+◌, Bool, true, false, cond, List, [], ◌∷◌, Option, Some, None, Result, Ok}
use Rattle.std.specs.Prelude.{Err}
use Rattle.sre_engine.specs.Terms.{Ghosts, Tree, Whole, is_anchored, no_marks, Match, walk, most_matches, words_of}
use Rattle.sre_engine.specs.Terms.{Request, end_of, code_of, asked_of, Refused}
use Rattle.sre_engine.specs.declared.engine.state.SreError.{SreError}
use Rattle.sre_engine.specs.declared.engine.search_iter.SearchIter.{SearchIter}
use Rattle.sre_engine.specs.Answers.{Shown, match_shown, MayTakeMemory}
use Rattle.sre_engine.specs.Counts.{CountsUpTo}
use Rattle.sre_engine.specs.Walks.{GoesOn}

-- what is asked next, what the state shows, and whether the walk has ended
abbrev pub request_of : {S A : Type 0} {text : Ghosts S} → SearchIter S A text → Request S text
request_of it = it.req

abbrev pub shown_of : {S A : Type 0} {text : Ghosts S} → SearchIter S A text → Shown
shown_of it = it.state

abbrev pub has_ended : {S A : Type 0} {text : Ghosts S} → SearchIter S A text → Bool
has_ended it = it.ended

-- the matches still to come
abbrev pub left_of : {S A : Type 0} {text : Ghosts S} → SearchIter S A text → Tree → List Match
left_of it t = cond (has_ended it) [] (walk (asked_of (request_of it)) t)

-- no more items come, an error among them
abbrev pub most_items : {S A : Type 0} {text : Ghosts S} → SearchIter S A text → ℕ
most_items it = cond (has_ended it) 0 (most_matches (asked_of (request_of it)) + 1)

-- what a step counted, which is a search of the window that is left
pub record Counted {S A : Type 0} {text : Ghosts S} (it next : SearchIter S A text) : Type 0 where
  pub counts : CountsUpTo (asked_of (request_of it)) (code_of (request_of it)) (end_of (request_of it) + 1)
      (end_of (request_of it)) (shown_of next)
  pub anchored : (t : Tree) → Whole (words_of (code_of (request_of it))) t → is_anchored t ≡ true
      → (shown_of next).started ≤ 1
  pub again : (shown_of next).restarted ≤ (shown_of next).started

-- a match comes, the first of those that were left, and the walk goes on at its end
pub record Gives {S A : Type 0} {text : Ghosts S} (it next : SearchIter S A text) : Type 0 where
  pub before : has_ended it ≡ false
  pub after : has_ended next ≡ false
  pub first : (t : Tree) → Whole (words_of (code_of (request_of it))) t
      → left_of it t ≡ match_shown (shown_of next) ∷ left_of next t
  pub request : GoesOn (request_of it) (shown_of next) (request_of next)
  pub counted : Counted it next
  pub up_to_match : CountsUpTo (asked_of (request_of it)) (code_of (request_of it)) ((shown_of next).start + 1)
      (shown_of next).cursor.position (shown_of next)

-- the walk has ended, for good: there are no marks, and the request is as it was
pub record Ends {S A : Type 0} {text : Ghosts S} (it next : SearchIter S A text) : Type 0 where
  pub over : has_ended next ≡ true
  pub marks : (shown_of next).marks ≡ no_marks
  pub request : request_of next ≡ request_of it
  pub counted : has_ended it ≡ false → Counted it next

-- no match is left
pub record IsOver {S A : Type 0} {text : Ghosts S} (it : SearchIter S A text) : Type 0 where
  pub none : (t : Tree) → Whole (words_of (code_of (request_of it))) t → left_of it t ≡ []

-- no run of a step without a limit began again
abbrev pub NoneAgain : {S A : Type 0} {text : Ghosts S} → SearchIter S A text → SearchIter S A text → Type 0
NoneAgain it next = has_ended it ≡ false → (shown_of next).restarted ≡ 0

-- the next item; an error comes only where an allocation by an A failed, and not after the walk's end
abbrev pub NextGives : {S A : Type 0} {text : Ghosts S}
    → SearchIter S A text → Option (Result (Unit {0}) SreError) → SearchIter S A text → Type 0
NextGives it None next = IsOver it × Ends it next × NoneAgain it next
NextGives it (Some (Ok _)) next = Gives it next × NoneAgain it next
NextGives {A = A} it (Some (Err _)) next =
    (has_ended it ≡ false) × Refused A × Ends it next × NoneAgain it next × MayTakeMemory (code_of (request_of it))

-- the walk stands where it stood, and goes on from there: there are no marks, and the request is as it was
pub record Stays {S A : Type 0} {text : Ghosts S} (it next : SearchIter S A text) : Type 0 where
  pub before : has_ended it ≡ false
  pub after : has_ended next ≡ false
  pub marks : (shown_of next).marks ≡ no_marks
  pub request : request_of next ≡ request_of it
  pub counted : Counted it next

-- the next item within a budget of steps: whether there is one, or that the step limit was exceeded before
abbrev pub NextWithin : {S A : Type 0} {text : Ghosts S}
    → SearchIter S A text → Result (Option Bool) SreError → SearchIter S A text → Type 0
NextWithin it (Ok (Some true)) next = Gives it next
NextWithin it (Ok (Some false)) next = IsOver it × Ends it next
NextWithin it (Ok None) next = Stays it next × MayTakeMemory (code_of (request_of it))
NextWithin {A = A} it (Err _) next =
    (has_ended it ≡ false) × Refused A × Ends it next × MayTakeMemory (code_of (request_of it))
