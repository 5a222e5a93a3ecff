use Rattle.sre_engine.proofs.Terms.{◌≡◌, ◌≤◌, ◌<◌, ◌+◌, ◌-◌, ℕ, char_at, end_of, code_of, asked_of, run_of}
use Rattle.sre_engine.specs.Doubled.{IsNoDouble}
use Rattle.sre_engine.proofs.engine.doubled.next_double.Given as goal

abbrev pub invariant-character : goal.invariant-character
invariant-character g l = record {
  stands : (run_of l.req).stands l.cursor l.cursor.position;
  behind : (run_of l.req).stands l.after l.after.position;
  one_on : l.after.position ≡ l.cursor.position + 1;
  read : l.character ≡ char_at (run_of l.req).subject l.cursor.position;
  from : l.fn.start.position ≤ l.cursor.position;
  inside : l.cursor.position < end_of l.req;
  none : (q : ℕ) → l.fn.start.position ≤ q → q < l.cursor.position → IsNoDouble (asked_of l.req) (code_of l.req) q;
}

abbrev pub decreases-character : goal.decreases-character
decreases-character g l = end_of l.req - l.after.position
