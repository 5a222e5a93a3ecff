use Rattle.std.proofs.Common.{◌≡◌, ℕ, ◌-◌, ◌<◌, ◌≤◌, None, slice_index_or}
use Rattle.sre_machine.proofs.marked.agree.Given as goal

abbrev pub invariant-entry : goal.invariant-entry
invariant-entry l = record {
  same : (k : ℕ) → l.from ≤ k → k < l.entry → slice_index_or l.kept k None ≡ slice_index_or l.raw k None;
}

abbrev pub decreases-entry : goal.decreases-entry
decreases-entry l = l.end - l.entry
