use Rattle.sre_c.proofs.Terms.{◌-◌, ◌≤◌, length, Lacks}
use Rattle.sre_c.proofs.numbers.pass_blocks.Given as goal

abbrev pub invariant-blocks-2 : goal.invariant-blocks-2
invariant-blocks-2 g l = (l.from ≤ l.at) × (l.at ≤ length l.numbers) × Lacks l.numbers l.character l.from l.at

abbrev pub decreases-blocks-2 : goal.decreases-blocks-2
decreases-blocks-2 g l = length l.numbers - l.at
