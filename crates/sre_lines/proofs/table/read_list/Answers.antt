-- The list's field goes up to the end of the first line.
use Rattle.sre_lines.proofs.Terms.{ap, Err}
use Rattle.sre_lines.proofs.TableFiles.{list_leaves, no_line, no_field}
use Rattle.sre_lines.proofs.table.read_list.Goals as goal

pub returns-in_default-split_once-clause-form : goal.returns-in_default-split_once-clause-form
returns-in_default-split_once-clause-form c failed =
    no_line _ _ _ c.in-Some.ensures.rest c.in_default-split_once.ensures.none

pub returns-in-Ok-clause-left : goal.returns-in-Ok-clause-left
returns-in-Ok-clause-left c =
    list_leaves _ _ _ _ _ c.in-Some.ensures.rest c.in-Some-split_once.ensures.parts c.in-Some-split_once.ensures.first

pub returns-in-Err-NotACase-clause-form : goal.returns-in-Err-NotACase-clause-form
returns-in-Err-NotACase-clause-form c failed =
    no_field _ _ _ _ _ c.in-Some.ensures.rest c.in-Some-split_once.ensures.parts c.in-Some-split_once.ensures.first
    (c.in-Err-NotACase.ensures.refused (ap Err c.in-Err-NotACase.field-0-is))
