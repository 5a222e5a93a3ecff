-- The fields before the reported one have their form.
use Rattle.sre_lines.proofs.Terms.{rules, refl, Find}
use Rattle.sre_lines.proofs.Causes.{not_utf8}
use Rattle.sre_lines.proofs.cause.field_cause.Goals as goal

pub returns-in-Some : goal.returns-in-Some
returns-in-Some c finding = ((Find finding, refl, refl), _, _, refl, c.in-Some.ensures.fault)

pub returns-in-Some-text_fault : goal.returns-in-Some-text_fault
returns-in-Some-text_fault c finding =
    ((Find finding, refl, refl), _, _, _, refl, search rules, c.in-Some-text_fault.ensures.fault)

pub returns-in-Some-window_fault : goal.returns-in-Some-window_fault
returns-in-Some-window_fault c finding =
    ((Find finding, refl, refl), _, _, _, _, refl, search rules, search rules, c.in-Some-window_fault.ensures.fault)

pub returns-in-Some-flags_fault : goal.returns-in-Some-flags_fault
returns-in-Some-flags_fault c finding = (
  (Find finding, refl, refl),
  _,
  _,
  _,
  _,
  refl,
  search rules,
  search rules,
  search rules,
  c.in-Some-flags_fault.ensures.fault,
)

pub returns : goal.returns
returns c = not_utf8 _ _ _ _ c.requires (search rules) (search rules) (search rules) (search rules)
