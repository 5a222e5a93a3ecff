-- The digits so far are decimal ones.
use Rattle.sre_lines.proofs.Terms.{rules, All-more, take_all, IsInRange}
use Rattle.sre_lines.proofs.Numbers.{digits_model}
use Rattle.sre_lines.proofs.cause.is_numeral.Goals as goal

pub loop-digit-preserved : goal.loop-digit-preserved
loop-digit-preserved c = All-more (λ c. IsInRange 48 57 c) _ _ 0 (search rules) c.loop-digit.invariant (search rules)

pub returns-then-not-is_ascii_digit : goal.returns-then-not-is_ascii_digit
returns-then-not-is_ascii_digit c = search (rules, digits_model)

pub returns : goal.returns
returns c = search (rules, digits_model, take_all)
