-- The fault at which the file stops is reported, with its cause on request.
use Rattle.sre_lines.proofs.Parts.{told_fault}
use Rattle.sre_lines.proofs.program.answer_file.Goals as goal

pub returns-clause-run : goal.returns-clause-run
returns-clause-run g c = record {
  answers = rw c.tell_with.ensures.fault
      (c.in-Err.ensures.faults, rw c.as_slice.ensures.value at c.in-Err.ensures.stopped);
  tells = told_fault _ _ _ _ _ c.tell_with.result c.tell_with.ensures.fault c.tell_with.ensures.line
      c.tell_with.ensures.part _ (rw c.as_slice-in-Err.ensures.value at c.fault_end-end.ensures);
}
