use Rattle.sre_patterns.proofs.Terms.{◌-◌, length}
use Rattle.sre_patterns.proofs.Tests.{LeftSettled}
use Rattle.sre_patterns.proofs.settled.settled_set.Given as goal

abbrev pub invariant-item : goal.invariant-item
invariant-item l = LeftSettled l.words l.start l.place l.from

abbrev pub decreases-item : goal.decreases-item
decreases-item l = length l.words - l.place
