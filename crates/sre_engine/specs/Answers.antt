-- What a state shows, and the answer of a search.
-- Of the specification: what sre_engine makes public rests on it.
use Rattle.std.specs.Prelude.{ℕ, ◌≡◌, ◌≤◌, Bool, true, false, Option, Some, None}
use Rattle.sre_engine.specs.Terms.{StringCursor, Marks, Match, hints_of, Code}

-- what a state shows: of the last match its marks, its start and its end, and of the last search how many comparisons
-- with words of a prefix it made, at how many starts it began a run of the machine, and how many runs it began again
pub record Shown : Type 0 where
  pub marks : Marks
  pub start : ℕ
  pub cursor : StringCursor
  pub compared : ℕ
  pub started : ℕ
  pub restarted : ℕ

-- the match that a state shows starts there, and ends between its start and the window's end
pub record Spans (start end : ℕ) (s : Shown) : Type 0 where
  pub starts : s.start ≡ start
  pub forward : start ≤ s.cursor.position
  pub inside : s.cursor.position ≤ end

-- the match that a state shows
abbrev pub match_shown : Shown → Match
match_shown s = record { start = s.start; end = s.cursor.position; marks = s.marks }

-- an answer as the match that it gives, none where it is no
abbrev pub answer_of : Bool → Shown → Option Match
answer_of true s = Some (match_shown s)
answer_of false s = None

-- no prefix is confirmed that is all of the code, with which a search takes no memory
abbrev pub MayTakeMemory : Code → Type 0
MayTakeMemory code = (hints_of code).literal ≡ false
