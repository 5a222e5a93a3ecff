-- A step of an iteration.
-- Of the specification: what sre_engine makes public rests on it.
use Rattle.std.specs.Prelude.{◌≡◌, ◌≤◌, Bool, cond, List, [], ◌∷◌}
use Rattle.sre_engine.specs.Terms.{Ghosts, Match, asked_after, Request, string_of, start_of, end_of, code_of, asked_of}
use Rattle.sre_engine.specs.Terms.{stands_in}
use Rattle.sre_engine.specs.Answers.{Shown, Spans, match_shown}

-- the matches left are the one that the state then shows and those left after it, where there is one, and none else
abbrev pub StepsTo : List Match → Bool → Shown → List Match → Type 0
StepsTo left b s after = left ≡ cond b (match_shown s ∷ after) []

-- a state shows a match of the window, at whose end its cursor stands, and what is asked next is what is asked after it
pub record GoesOn {S : Type 0} {text : Ghosts S} (r : Request S text) (s : Shown) (u : Request S text) : Type 0 where
  pub from : start_of r ≤ s.start
  pub span : Spans s.start (end_of r) s
  pub stands : stands_in r s.cursor s.cursor.position
  pub asked : asked_of u ≡ asked_after (asked_of r) (match_shown s)
  pub string : string_of u ≡ string_of r
  pub pattern_codes : code_of u ≡ code_of r
