use Rattle.std.proofs.Common.{◌-◌, ◌≤◌, length}
use Rattle.sre_machine.proofs.Analyses.{CoversTo}
use Rattle.sre_machine.proofs.marked.named_end.Given as goal

abbrev pub invariant-word : goal.invariant-word
invariant-word l = record {
  some : 1 ≤ l.place;
  covers : CoversTo l.words l.place l.end;
}

abbrev pub decreases-word : goal.decreases-word
decreases-word l = length l.words - l.place
