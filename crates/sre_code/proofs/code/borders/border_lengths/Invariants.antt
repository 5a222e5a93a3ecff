use Rattle.sre_code.proofs.Terms.{◌≡◌, length, RightUpTo}
use Rattle.sre_code.proofs.code.borders.border_lengths.Given as goal

abbrev pub invariant-front : goal.invariant-front
invariant-front g l = RightUpTo l.words l.lengths.items l.n × (length l.lengths.items ≡ length l.words)
