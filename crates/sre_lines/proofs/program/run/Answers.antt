-- Where the arguments request nothing, that is reported.
use Rattle.sre_lines.proofs.Terms.{refl, Err}
use Rattle.sre_lines.proofs.Parts.{told}
use Rattle.sre_lines.proofs.program.run.Goals as goal

pub returns-in-Err-clause-run : goal.returns-in-Err-clause-run
returns-in-Err-clause-run g c = record {
  call = Err c.in-Err.fault;
  is_call = c.in-Err.ensures;
  runs = (
    c.tell.ensures.fault,
    refl,
    told _ _ _ _ _ c.tell.result c.tell.ensures.fault c.tell.ensures.line c.tell.ensures.part,
  );
}
