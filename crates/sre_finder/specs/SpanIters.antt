-- What an iteration over spans shows, and what its next item is.
-- Definitions for the contracts of this crate.
use Rattle.std.specs.Prelude.{◌≡◌, ℕ, true, false, List, Option, Some, None, ◌+◌, Bool, cond, [], ◌∷◌, Result, Ok, Err}
use Rattle.sre_finder.specs.Terms.{Ghosts, Tree, Whole, Marks, Match, found, walk, most_matches, words_of, Request}
use Rattle.sre_finder.specs.Terms.{code_of, asked_of, Encoding, Refused, Shown, MayTakeMemory, Asked}
use Rattle.sre_engine.specs.declared.engine.state.SreError.{SreError}
use Rattle.sre_finder.specs.declared.span_iter.Span.{Span}
use Rattle.sre_finder.specs.declared.span_iter.SpanIter.{SpanIter}
use Rattle.sre_finder.specs.Spans.{match_with, GoesOnBehind}

-- what is asked next, what the state shows, and whether the walk has ended
abbrev pub request_of : {S A : Type 0} {text : Ghosts S} → SpanIter S A text → Request S text
request_of it = it.req

abbrev pub shown_of : {S A : Type 0} {text : Ghosts S} → SpanIter S A text → Shown
shown_of it = it.state

abbrev pub has_ended : {S A : Type 0} {text : Ghosts S} → SpanIter S A text → Bool
has_ended it = it.ended

-- how its finder reads texts
abbrev pub encoding_of : {S A : Type 0} {text : Ghosts S} → SpanIter S A text → Encoding
encoding_of it = it.finder.encoding

-- what is asked at the start of the match that came last
abbrev pub last_asked : {S A : Type 0} {text : Ghosts S} → SpanIter S A text → Asked
last_asked it = record (asked_of (request_of it)) { start = it.at.position; must_advance = it.advances }

-- the matches still to come
abbrev pub left_of : {S A : Type 0} {text : Ghosts S} → SpanIter S A text → Tree → List Match
left_of it t = cond (has_ended it) [] (walk (asked_of (request_of it)) t)

-- no more items come, an error among them
abbrev pub most_spans : {S A : Type 0} {text : Ghosts S} → SpanIter S A text → ℕ
most_spans it = cond (has_ended it) 0 (most_matches (asked_of (request_of it)) + 1)

-- the span comes of the first of the matches that were left, which is found from its start on; and the walk goes on
-- at its end
pub record GivesSpan {S A : Type 0} {text : Ghosts S} (it : SpanIter S A text) (span : Span) (next : SpanIter S A text)
    : Type 0 where
  pub before : has_ended it ≡ false
  pub after : has_ended next ≡ false
  pub first : (t : Tree) → Whole (words_of (code_of (request_of it))) t
      → (marks : Marks) × (left_of it t ≡ match_with span.start span.end marks ∷ left_of next t)
      × (found (last_asked next) t ≡ Some (match_with span.start span.end marks))
  pub request : GoesOnBehind (request_of it) span.start span.end (request_of next)
  pub encoding : encoding_of next ≡ encoding_of it

-- the walk has ended, for good; the request, and what is asked at the start of the last match, are as they were
pub record Ends {S A : Type 0} {text : Ghosts S} (it next : SpanIter S A text) : Type 0 where
  pub over : has_ended next ≡ true
  pub request : request_of next ≡ request_of it
  pub last : last_asked next ≡ last_asked it
  pub encoding : encoding_of next ≡ encoding_of it

-- no match is left
pub record IsOver {S A : Type 0} {text : Ghosts S} (it : SpanIter S A text) : Type 0 where
  pub none : (t : Tree) → Whole (words_of (code_of (request_of it))) t → left_of it t ≡ []

-- the next item; an error comes only where an allocation by an A failed, and not after the walk's end
abbrev pub NextSpan : {S A : Type 0} {text : Ghosts S}
    → SpanIter S A text → Option (Result Span SreError) → SpanIter S A text → Type 0
NextSpan it None next = IsOver it × Ends it next
NextSpan it (Some (Ok span)) next = GivesSpan it span next
NextSpan {A = A} it (Some (Err _)) next =
    (has_ended it ≡ false) × Refused A × Ends it next × MayTakeMemory (code_of (request_of it))
