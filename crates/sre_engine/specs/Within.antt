-- What a search within a budget of steps says of its answer.
-- Public clauses rest on it.
use Rattle.std.specs.Prelude.{◌≡◌, ◌≢◌, ◌≤◌, Bool, true, Option, None, Some, Result, IfOk, IfSome, OnErr}
use Rattle.sre_engine.specs.Terms.{Ghosts, Tree, Whole, no_marks, found, words_of, Request, start_of, end_of, code_of}
use Rattle.sre_engine.specs.Terms.{asked_of, stands_in}
use Rattle.sre_engine.specs.Answers.{Shown, Spans, answer_of, MayTakeMemory}
use Rattle.sre_engine.specs.Counts.{BeginsAgain}
use Rattle.sre_engine.specs.Searches.{has_found, CountsAll}

-- the answer is the first match of the least start in the range that has one, unless the step limit was exceeded; the
-- runs began no more often than a search without a limit begins them, but for those that began again
pub record AnsweredWithin {S E : Type 0} {text : Ghosts S} (r : Request S text) (told : Result (Option Bool) E)
    (s : Shown) : Type 0 where
  pub answer : (t : Tree) → Whole (words_of (code_of r)) t
      → IfOk told (λ o. IfSome o (λ b. answer_of b s ≡ found (asked_of r) t))
  pub cursor : IfOk told (λ o. o ≡ Some true → stands_in r s.cursor s.cursor.position)
  pub span : IfOk told (λ o. o ≡ Some true → (start_of r ≤ s.start) × Spans s.start (end_of r) s)
  pub no : IfOk told (λ o. o ≢ Some true → s.marks ≡ no_marks)
  pub err : OnErr told (s.marks ≡ no_marks)
  pub counts : CountsAll r (has_found told) s
  pub again : BeginsAgain true s
  pub literal : (OnErr told (MayTakeMemory (code_of r))) × IfOk told (λ o. o ≡ None → MayTakeMemory (code_of r))
