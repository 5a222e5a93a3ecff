use Rattle.sre_c.proofs.Terms.{◌≡◌, ◌≤◌, ◌-◌, ◌*◌, length, items_of, SetsOf, string_of, start_of, code_of, stands_in}
use Rattle.sre_c.proofs.Terms.{AreWritten}
use Rattle.sre_c.proofs.walk.write_rows.Given as goal

abbrev pub invariant-matches : goal.invariant-matches
invariant-matches g l =
    AreWritten l.fn.request l.request l.width l.fn.walked.steps l.walked l.rows
    × (l.at ≡ l.walked.count * l.width)
    × (l.at ≤ length l.rows)
    × (length l.rows ≡ length l.fn.rows)
    × g.F.Starts.suits l.starts (string_of l.request) (code_of l.request)
    × SetsOf (items_of (code_of l.request)) l.memory.sets
    × stands_in l.request l.cursor (start_of l.request)

abbrev pub decreases-matches : goal.decreases-matches
decreases-matches g l = length l.rows - l.at
