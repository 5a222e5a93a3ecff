use Rattle.sre_lines.proofs.Terms.{take, IsInRange, All}
use Rattle.sre_lines.proofs.cause.is_numeral.Given as goal

abbrev pub invariant-loop-digit : goal.invariant-loop-digit
invariant-loop-digit l = All (λ c. IsInRange 48 57 c) (take l.digit-index l.digits)
