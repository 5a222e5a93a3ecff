use Rattle.sre_lines.proofs.Terms.{take, All, IsHexDigit}
use Rattle.sre_lines.proofs.cause.are_hex_digits.Given as goal

abbrev pub invariant-loop-digit : goal.invariant-loop-digit
invariant-loop-digit l = All IsHexDigit (take l.digit-index l.digits)
