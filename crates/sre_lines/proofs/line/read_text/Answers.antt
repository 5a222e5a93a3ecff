-- A field that is rejected has no form's letter, or bytes that are no text of the form.
use Rattle.sre_lines.proofs.Terms.{rules, hex_text}
use Rattle.sre_lines.proofs.Lines.{no_form, no_text}
use Rattle.sre_lines.proofs.line.read_text.Goals as goal

pub returns-in_default-form_of-clause-refused : goal.returns-in_default-form_of-clause-refused
returns-in_default-form_of-clause-refused g c _ form bytes _ _ =
    no_form _ _ _ c.in-Some.ensures.parts c.in-Some.ensures.first c.in_default-form_of.ensures.refused form
    (hex_text bytes)

pub returns-in-Utf8-clause-refused : goal.returns-in-Utf8-clause-refused
returns-in-Utf8-clause-refused g c _ =
    no_text _ _ _ c.in-Some.ensures.parts c.in-Some.ensures.first c.in-Some-form_of.form _
    c.in-Some-form_of.ensures.written c.in_ok-read_hex.ensures.read c.in_ok-read_hex.ensures.fit (search rules)
