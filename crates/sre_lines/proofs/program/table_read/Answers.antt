-- Where a file is no table, that is reported, with its cause on request.
use Rattle.sre_lines.proofs.Terms.{inl, inr, refl, ap, ◌∙◌, Err}
use Rattle.sre_lines.proofs.Parts.{no_table}
use Rattle.sre_lines.proofs.program.table_read.Goals as goal

pub returns-in-Err-NoMemory-clause-none : goal.returns-in-Err-NoMemory-clause-none
returns-in-Err-NoMemory-clause-none g c =
    no_table _ _ _ _ _ c.tell_with.result c.tell_with.ensures.fault c.tell_with.ensures.line c.tell_with.ensures.part
    c.args.detail c.args.file (inr (refl, c.in-Err-NoMemory.ensures.memory (ap Err c.in-Err-NoMemory.field-0-is))) refl

pub returns-in-Err-Form-clause-none : goal.returns-in-Err-Form-clause-none
returns-in-Err-Form-clause-none g c =
    let none = rw c.as_slice.ensures.value at c.in-Err-Form.ensures.form (ap Err c.in-Err-Form.field-0-is) in
    let told = c.tell_with-in-Err-Form.ensures in
    no_table _ _ _ _ _ c.tell_with-in-Err-Form.result told.fault told.line told.part c.args.detail c.args.file
    (inl (refl, inl none)) (c.form_end-end.ensures _ none)

pub returns-clause-none : goal.returns-clause-none
returns-clause-none g c =
    let (table, written, is) = c.in-Err-Lists.ensures.lists c.in-Err-Lists.error (ap Err c.in-Err-Lists.field-0-is) in
    let same = written ∙ c.as_slice.ensures.value in
    let told = c.tell_with-in-Err-Lists.ensures in
    no_table _ _ _ _ _ c.tell_with-in-Err-Lists.result told.fault told.line told.part c.args.detail c.args.file
    (inl (refl, inr (table, c.in-Err-Lists.error, same, is))) (c.lists_end-end.ensures _ table same is)
