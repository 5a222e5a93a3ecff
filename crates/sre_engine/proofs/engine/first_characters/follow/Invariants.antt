use Rattle.sre_engine.proofs.Terms.{◌-◌, length}
use Rattle.sre_engine.proofs.Leading.{Followed}
use Rattle.sre_engine.proofs.engine.first_characters.follow.Given as goal

abbrev pub invariant-item : goal.invariant-item
invariant-item l = Followed l.words l.fn.start l.reached.place l.reached.back l.reached.at

abbrev pub decreases-item : goal.decreases-item
decreases-item l = length l.words - l.reached.place
