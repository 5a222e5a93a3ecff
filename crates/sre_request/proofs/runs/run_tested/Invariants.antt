use Rattle.sre_request.proofs.Terms.{◌+◌, ◌-◌, ◌≡◌, not, nat_eq, Counted, run_of}
use Rattle.sre_request.proofs.runs.run_tested.Given as goal

abbrev pub invariant-character : goal.invariant-character
invariant-character g l = record {
  counted : Counted (run_of l.req) l.place (not (nat_eq g.row.WANTED 0)) l.most l.fn.start l.cursor
      (l.cursor.position - l.fn.start.position);
  end : l.end ≡ l.fn.start.position + l.most;
}

abbrev pub decreases-character : goal.decreases-character
decreases-character g l = l.end - l.cursor.position
