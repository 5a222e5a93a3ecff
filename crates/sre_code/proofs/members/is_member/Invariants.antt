use Rattle.sre_code.proofs.Terms.{◌-◌, length, VerdictLeft}
use Rattle.sre_code.proofs.members.is_member.Given as goal

abbrev pub invariant-item : goal.invariant-item
invariant-item l = VerdictLeft l.words l.uni l.start l.character l.place l.taken

abbrev pub decreases-item : goal.decreases-item
decreases-item l = length l.words - l.place
