use Rattle.sre_engine.proofs.Terms.{◌≤◌, ◌-◌, List, SetItem, words_of, end_of, code_of, asked_of, run_of, IsFirstSet}
use Rattle.sre_engine.specs.Members.{NoMember}
use Rattle.sre_engine.proofs.engine.members.next_taken.Given as goal

abbrev pub invariant-character : goal.invariant-character
invariant-character g l = record {
  stands : (run_of l.req).stands l.cursor l.cursor.position;
  from : l.fn.start.position ≤ l.cursor.position;
  inside : l.cursor.position ≤ end_of l.req;
  none : (set : List SetItem) → IsFirstSet (words_of (code_of l.req)) set
      → NoMember (asked_of l.req) set l.fn.start.position l.cursor.position;
}

abbrev pub decreases-character : goal.decreases-character
decreases-character g l = end_of l.req - l.cursor.position
