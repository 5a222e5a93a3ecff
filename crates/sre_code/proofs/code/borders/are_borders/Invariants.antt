use Rattle.sre_code.proofs.Terms.{RightUpTo}
use Rattle.sre_code.proofs.code.borders.are_borders.Given as goal

abbrev pub invariant-front : goal.invariant-front
invariant-front l = RightUpTo l.prefix l.overlaps l.n
