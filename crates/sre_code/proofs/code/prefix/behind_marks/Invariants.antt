use Rattle.sre_code.proofs.Terms.{length, ◌-◌, ◌≤◌}
use Rattle.sre_code.proofs.Claimed.{SameMarks}
use Rattle.sre_code.proofs.code.prefix.behind_marks.Given as goal

abbrev pub invariant-mark : goal.invariant-mark
invariant-mark l = record { within : l.place ≤ length l.words; same : SameMarks l.words l.start l.place }

abbrev pub decreases-mark : goal.decreases-mark
decreases-mark l = length l.words - l.place
