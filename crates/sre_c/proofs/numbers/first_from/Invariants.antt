use Rattle.sre_c.proofs.Terms.{◌-◌, ◌≤◌, length, Lacks}
use Rattle.sre_c.proofs.numbers.first_from.Given as goal

abbrev pub invariant-loop-at : goal.invariant-loop-at
invariant-loop-at g l = (l.from ≤ l.at) × (l.at ≤ length l.numbers) × Lacks l.numbers l.character l.from l.at

abbrev pub decreases-loop-at : goal.decreases-loop-at
decreases-loop-at g l = length l.numbers - l.at
