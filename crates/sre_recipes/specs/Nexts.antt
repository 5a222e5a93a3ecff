-- The next match of an iteration with a prefilter: a definition for private functions' contracts.
use Rattle.std.specs.Prelude.{◌≡◌, ◌≤◌, Bool, false, ◌∷◌}
use Rattle.sre_recipes.specs.Terms.{Ghosts, StringCursor, Tree, Whole, Match, words_of, string_of, start_of, end_of}
use Rattle.sre_recipes.specs.Terms.{code_of, SpanIter, has_ended}
use Rattle.sre_finder.specs.SpanIters.{request_of, shown_of, left_of}
use Rattle.sre_recipes.specs.Spans.{IsFound, Shows}

-- the first of the matches that were left is found between two cursors, and the walk goes on at its end
pub record FindsNext {S A : Type 0} {text : Ghosts S} (captures : Bool) (it : SpanIter S A text)
    (start end : StringCursor) (next : SpanIter S A text) : Type 0 where
  pub after : has_ended next ≡ false
  pub first : (t : Tree) → Whole (words_of (code_of (request_of it))) t
      → (m : Match) × Shows captures (shown_of next) start end m × (left_of it t ≡ m ∷ left_of next t)
  pub found : IsFound (text.stands (string_of (request_of it))) captures (shown_of next) start end
  pub from : start_of (request_of it) ≤ start.position
  pub starts : start_of (request_of next) ≡ end.position
  pub inside : end.position ≤ end_of (request_of it)
  pub ends : end_of (request_of next) ≡ end_of (request_of it)
  pub string : string_of (request_of next) ≡ string_of (request_of it)
  pub code : code_of (request_of next) ≡ code_of (request_of it)
