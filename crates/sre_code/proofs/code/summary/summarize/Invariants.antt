use Rattle.sre_code.proofs.Terms.{length, ◌-◌}
use Rattle.sre_code.proofs.Summaries.{Noted}
use Rattle.sre_code.proofs.code.summary.summarize.Given as goal

abbrev pub invariant-instruction : goal.invariant-instruction
invariant-instruction l = Noted l.words l.place l.sum

abbrev pub decreases-instruction : goal.decreases-instruction
decreases-instruction l = length l.words - l.place
