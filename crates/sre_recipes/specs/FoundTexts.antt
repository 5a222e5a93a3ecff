-- What an iteration over the texts of matches gives.
-- Definitions for the contracts of this crate.
use Rattle.std.specs.Prelude.{◌≡◌, false, Option, Some, None, Result, Ok, Err, slice_range}
use Rattle.sre_recipes.specs.Terms.{Ghosts, Refused, string_of, code_of, MayTakeMemory, SreError, SpanIter, has_ended}
use Rattle.sre_recipes.specs.Terms.{GivesSpan}
use Rattle.sre_finder.specs.declared.span_iter.Span.{Span}
use Rattle.sre_finder.specs.SpanIters.{request_of, Ends, IsOver}
use Rattle.sre_recipes.specs.declared.found.FoundTexts.{FoundTexts}

-- the walk over the matches' spans
abbrev pub walk_of : {S A : Type 0} {text : Ghosts S} → FoundTexts S A text → SpanIter S A text
walk_of it = it.walk

-- the text of the first of the matches that were left, and the walk goes on at its end
pub record GivesText {S A : Type 0} {text : Ghosts S} (it : FoundTexts S A text) (found : S)
    (next : FoundTexts S A text) : Type 0 where
  pub span : Span
  pub gives : GivesSpan (walk_of it) span (walk_of next)
  pub text_is : text.text found ≡ slice_range (text.text (string_of (request_of (walk_of it)))) span.start span.end

-- the next item; an error comes only where an allocation by an A failed, and not after the walk's end
abbrev pub NextText : {S A : Type 0} {text : Ghosts S}
    → FoundTexts S A text → Option (Result S SreError) → FoundTexts S A text → Type 0
NextText it None next = IsOver (walk_of it) × Ends (walk_of it) (walk_of next)
NextText it (Some (Ok found)) next = GivesText it found next
NextText {A = A} it (Some (Err _)) next =
    (has_ended (walk_of it) ≡ false) × Refused A × Ends (walk_of it) (walk_of next)
    × MayTakeMemory (code_of (request_of (walk_of it)))
