-- Digits that are rejected denote a greater number.
use Rattle.sre_lines.proofs.Terms.{rules, ◌≡◌, ◌+◌, length, get_or, sym, ap, ◌∙◌, IsNumeral, digits_value}
use Rattle.std.proofs.lemmas.Fmt.{digits_value-decimal}
use Rattle.sre_lines.proofs.Numbers.{own, too_large}
use Rattle.sre_lines.proofs.cause.number_fault.Goals.{else-digits-gt1-via-then-digits-gt1+else-digits-eq48}
use Rattle.sre_lines.proofs.cause.number_fault.Goals.{else-digits-gt1-via-else-digits-gt1}
use Rattle.sre_lines.proofs.cause.number_fault.Goals as goal

pub returns-in_default-clause-fault : goal.returns-in_default-clause-fault
returns-in_default-clause-fault c =
    let numeral : IsNumeral 10 c.args.digits.now = search rules in
    let value : digits_value 10 c.args.digits.now ≡ c.in-Some.number =
    sym (ap (λ ds. digits_value 10 ds) c.in-Some.ensures.written)
    ∙ digits_value-decimal own c.in-Some.number (search rules) in (numeral, search rules)

pub returns-in_default-2-clause-fault : goal.returns-in_default-2-clause-fault
returns-in_default-2-clause-fault c =
    let numeral : IsNumeral 10 c.args.digits.now = search rules in
    let zero_alone : get_or c.args.digits.now 0 0 ≡ 48 → length c.args.digits.now ≡ 1 =
    elim c.else-digits-gt1.branch [
      | else-digits-gt1-via-then-digits-gt1+else-digits-eq48 w ↦ λ is. absurd (search rules)
      | else-digits-gt1-via-else-digits-gt1 w ↦ λ is. search rules
    ] in
    let large = too_large _ (c.args.most + 1) numeral zero_alone (search rules)
    (λ n below. c.in_default.ensures.refused n (search rules)) in (numeral, large)
