-- The digits so far are hexadecimal ones.
use Rattle.sre_lines.proofs.Terms.{rules, All-more, take_all, IsHexDigit}
use Rattle.sre_lines.proofs.cause.are_hex_digits.Goals as goal

pub loop-digit-preserved : goal.loop-digit-preserved
loop-digit-preserved c = All-more IsHexDigit _ _ 0 (search rules) c.loop-digit.invariant (search rules)

pub returns-clause-all : goal.returns-clause-all
returns-clause-all c _ =
    rw (take_all c.loop-digit.digit-index c.args.digits.now (search rules)) at c.loop-digit.invariant
