use Rattle.sre_lines.proofs.FileLines.{SoFar}
use Rattle.sre_lines.proofs.Terms.{◌≡◌, length}
use Rattle.sre_lines.proofs.cases.answer_lines_by.Given as goal

abbrev pub invariant-lines : goal.invariant-lines
invariant-lines g l = record {
  table : l.desk.table ≡ l.fn.table;
  detail : l.desk.detail ≡ l.fn.detail;
  so_far : SoFar l.fn.detail l.fn.table l.fn.file l.left l.number
      (g.W.Write.contents l.initial.out) (g.W.Write.contents l.out);
}

abbrev pub decreases-lines : goal.decreases-lines
decreases-lines g l = length l.left
