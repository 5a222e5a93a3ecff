use Rattle.sre_lines.proofs.FileLines.{Reached}
use Rattle.sre_lines.proofs.cause.line_at.Given as goal

abbrev pub invariant-loop : goal.invariant-loop
invariant-loop l = Reached l.fn.file l.left l.counter
