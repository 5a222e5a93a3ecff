-- The flush writes nothing that was not answered.
use Rattle.sre_lines.proofs.Cuts.{some_part}
use Rattle.sre_lines.proofs.FileLines.{failed_flush}
use Rattle.sre_lines.proofs.program.answer_bytes.Goals as goal

pub returns-in-Err-clause-stopped : goal.returns-in-Err-clause-stopped
returns-in-Err-clause-stopped g c =
    failed_flush c.args.detail c.args.table _ _ _ _ c.answer_lines_by-ran.result (some_part 10 c.args.file.now)
    c.answer_lines_by-ran.ensures.answers c.answer_lines_by-ran.ensures.stopped c.flush.ensures.bytes
