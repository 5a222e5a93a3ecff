-- What is written is the fault's text, or a part of it.
use Rattle.sre_lines.proofs.Parts.{front_part, behind_part, behind_whole}
use Rattle.sre_lines.proofs.cases.write_text.Goals as goal

pub returns-in-Usage-clause-text : goal.returns-in-Usage-clause-text
returns-in-Usage-clause-text g c = rw c.in-Usage.is c.write_whole.ensures.whole

pub returns-in-CannotRead-clause-text : goal.returns-in-CannotRead-clause-text
returns-in-CannotRead-clause-text g c =
    rw c.in-CannotRead.is (simp c.as_bytes.ensures.value at c.write_both.ensures.whole)

pub returns-in-CannotRead-clause-part : goal.returns-in-CannotRead-clause-part
returns-in-CannotRead-clause-part g c =
    rw c.in-CannotRead.is (simp c.as_bytes.ensures.value at c.write_both.ensures.part)

pub returns-in-NotATable-clause-text : goal.returns-in-NotATable-clause-text
returns-in-NotATable-clause-text g c =
    rw c.in-NotATable.is (simp c.as_bytes-in-NotATable.ensures.value at c.write_both-in-NotATable.ensures.whole)

pub returns-in-NotATable-clause-part : goal.returns-in-NotATable-clause-part
returns-in-NotATable-clause-part g c =
    rw c.in-NotATable.is (simp c.as_bytes-in-NotATable.ensures.value at c.write_both-in-NotATable.ensures.part)

pub returns-in_err-write_whole-in-NotACase-clause-part : goal.returns-in_err-write_whole-in-NotACase-clause-part
returns-in_err-write_whole-in-NotACase-clause-part g c =
    rw c.in-NotACase.is (front_part _ _ _ _ c.from_residual.result c.in_err-write_whole-in-NotACase.ensures.part)

pub returns-in_ok-write_whole-in-NotACase-clause-text : goal.returns-in_ok-write_whole-in-NotACase-clause-text
returns-in_ok-write_whole-in-NotACase-clause-text g c =
    rw c.in-NotACase.is (behind_whole _ _ _ _ _ _ c.write_both-in-NotACase.result
    (cc (c.as_bytes-in-NotACase.ensures.value, c.format.ensures.text))
    c.in_ok-write_whole-in-NotACase.ensures.whole c.write_both-in-NotACase.ensures.whole)

pub returns-in_ok-write_whole-in-NotACase-clause-part : goal.returns-in_ok-write_whole-in-NotACase-clause-part
returns-in_ok-write_whole-in-NotACase-clause-part g c =
    rw c.in-NotACase.is (behind_part _ _ _ _ _ _ c.write_both-in-NotACase.result
    (cc (c.as_bytes-in-NotACase.ensures.value, c.format.ensures.text))
    c.in_ok-write_whole-in-NotACase.ensures.whole c.write_both-in-NotACase.ensures.part)

pub returns-in-OutputFailed-clause-text : goal.returns-in-OutputFailed-clause-text
returns-in-OutputFailed-clause-text g c = rw c.in-OutputFailed.is c.write_whole-in-OutputFailed.ensures.whole
