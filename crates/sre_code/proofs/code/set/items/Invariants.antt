use Rattle.sre_code.proofs.Terms.{◌-◌, SameSets}
use Rattle.sre_code.proofs.code.set.items.Given as goal

abbrev pub invariant-items : goal.invariant-items
invariant-items l = SameSets l.words l.start l.place l.end

abbrev pub decreases-items : goal.decreases-items
decreases-items l = l.end - l.place
