-- A field that is rejected is not what any number is written as.
use Rattle.sre_lines.proofs.Terms.{rules, BeginsAsNumber}
use Rattle.sre_lines.proofs.Numbers.{read_is_written, refused_is_not_written, no_text_is_not_written}
use Rattle.sre_lines.proofs.Numbers.{no_number_is_not_written}
use Rattle.sre_lines.proofs.number.decimal_number.Goals as goal

pub returns-then-not-begins_as_number-clause-refused : goal.returns-then-not-begins_as_number-clause-refused
returns-then-not-begins_as_number-clause-refused c = search (rules, no_number_is_not_written)

pub returns-in_default-clause-refused : goal.returns-in_default-clause-refused
returns-in_default-clause-refused c = no_text_is_not_written _ c.in_default.ensures.cases.0

pub returns-in-Ok-parse-clause-written : goal.returns-in-Ok-parse-clause-written
returns-in-Ok-parse-clause-written c =
    let begins : BeginsAsNumber c.args.digits.now = search rules in
    read_is_written c.args.digits.now c.in-Ok-parse.number begins
    (rw c.in-Ok.ensures.cases.0 at c.in-Ok-parse.ensures.value.0)

pub returns-in-Err-clause-refused : goal.returns-in-Err-clause-refused
returns-in-Err-clause-refused c =
    refused_is_not_written _ c.args.digits.now c.in-Err.field-0 (rw c.in-Ok.ensures.cases.0 at c.in-Err.ensures.value.0)
