use Rattle.sre_code.proofs.Terms.{◌-◌, length}
use Rattle.sre_code.proofs.Scanning.{ScannedTo}
use Rattle.sre_code.proofs.code.summary.may_set_marks.Given as goal

abbrev pub invariant-word : goal.invariant-word
invariant-word l = ScannedTo l.items l.place l.farthest

abbrev pub decreases-word : goal.decreases-word
decreases-word l = length l.items - l.place
