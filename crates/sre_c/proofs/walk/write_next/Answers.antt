use Rattle.sre_c.proofs.Terms.{◌∙◌, Some, ap}
use Rattle.sre_c.proofs.Rows.{ended, limited, refused, one_more}
use Rattle.sre_c.proofs.walk.write_next.Goals as goal

pub returns-clause-rows : goal.returns-clause-rows
returns-clause-rows g c =
    let is = c.in-Ok-Some-true.field-0-is ∙ ap Some c.in-Ok-Some-true.field-0-0-test in
    one_more (rw is at c.in-Ok-Some-true.ensures.searched) c.requires.place c.note_next.ensures.next
    c.write_row.ensures.row c.write_row.ensures.before

pub returns-in-Ok-Some-false-clause-rows : goal.returns-in-Ok-Some-false-clause-rows
returns-in-Ok-Some-false-clause-rows g c =
    let is = c.in-Ok-Some-false.field-0-is ∙ ap Some c.in-Ok-Some-false.field-0-0-test in
    ended (rw is at c.in-Ok-Some-false.ensures.searched)

pub returns-in-Ok-None-clause-rows : goal.returns-in-Ok-None-clause-rows
returns-in-Ok-None-clause-rows g c = limited (rw c.in-Ok-None.field-0-is at c.in-Ok-None.ensures.searched)

pub returns-in-Err-Memory-clause-rows : goal.returns-in-Err-Memory-clause-rows
returns-in-Err-Memory-clause-rows g c =
    refused (rw c.in-Err-Memory.is at c.next_match.ensures.searched)
