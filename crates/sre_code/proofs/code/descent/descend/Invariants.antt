use Rattle.sre_code.specs.Descent.{Same, StackRest, WholeFrom, work}
use Rattle.sre_code.proofs.code.descent.descend.Given as goal

abbrev pub invariant-part : goal.invariant-part
invariant-part g l = Same (WholeFrom l.words l.start) (StackRest l.words l.reached.place l.reached.width l.parts.items)

abbrev pub decreases-part : goal.decreases-part
decreases-part g l = work l.words l.reached.place l.parts.items
