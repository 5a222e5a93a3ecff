use Rattle.sre_code.proofs.Terms.{◌-◌, length, AsciiLeft}
use Rattle.sre_code.proofs.ascii_members.ascii_members.Given as goal

abbrev pub invariant-item : goal.invariant-item
invariant-item l = AsciiLeft l.words l.start l.place l.taken l.members l.left

abbrev pub decreases-item : goal.decreases-item
decreases-item l = length l.words - l.place
