-- Where digits are rejected, a form is before them.
use Rattle.sre_lines.proofs.Terms.{rules, arith}
use Rattle.sre_lines.proofs.Causes.{bytes_field}
use Rattle.sre_lines.proofs.Lines.{no_form}
use Rattle.sre_lines.proofs.cause.text_fault.Goals as goal

pub returns-in_default-form_of-clause-fault : goal.returns-in_default-form_of-clause-fault
returns-in_default-form_of-clause-fault c =
    no_form _ _ _ c.in-Some.ensures.parts c.in-Some.ensures.first c.in_default-form_of.ensures.refused

pub returns-clause-none : goal.returns-clause-none
returns-clause-none c =
    bytes_field _ _ _ c.in-Some-form_of._form c.in-Some.ensures.parts c.in-Some-form_of.ensures.written
    (omega (arith, c.if-digits-ne0.false)) (search rules)
