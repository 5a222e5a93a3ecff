use Rattle.sre_code.proofs.Terms.{◌≤◌, ◌*◌, ◌+◌, ◌-◌}
use Rattle.sre_code.proofs.Scanning.{Scanned}
use Rattle.sre_code.proofs.code.slots.+plain.Given as goal

-- a scan stands above the instruction that it passes, and that above the loop that it is
abbrev pub decreases-looped : goal.decreases-looped
decreases-looped l = l.most * 3

abbrev pub decreases-part : goal.decreases-part
decreases-part l = l.most * 3 + 1

abbrev pub decreases-scan : goal.decreases-scan
decreases-scan l = l.most * 3 + 2

abbrev pub decreases-scan-part : goal.decreases-scan-part
decreases-scan-part l = l.end - l.place

abbrev pub invariant-scan-part : goal.invariant-scan-part
invariant-scan-part l = record {
  some : 1 ≤ l.most;
  onto : Scanned l.most l.words l.start l.end some l.place l.slots;
  few : l.slots ≤ l.most;
}
