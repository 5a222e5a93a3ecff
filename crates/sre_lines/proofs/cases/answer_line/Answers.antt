-- The answer that is written, whole or in part, is that of the line's case.
use Rattle.sre_lines.proofs.Terms.{inr, arith}
use Rattle.sre_lines.proofs.FileLines.{case_answered, one_answered}
use Rattle.std.proofs.lemmas.Grind.{common_steps}
use Rattle.sre_lines.proofs.cases.answer_line.Goals as goal

pub returns-clause-answers : goal.returns-clause-answers
returns-clause-answers g c =
    let (said, answer, appended) = c.in-Ok-write_answer.ensures.answer in
    one_answered c.args.desk.now.detail c.args.desk.now.table _ _ _ _
    (case_answered _ _ _ c.in-Ok.case _ _ said c.in-Ok.ensures.read c.in-Ok.ensures.lawful answer) appended

pub returns-in_default-clause-begun : goal.returns-in_default-clause-begun
returns-in_default-clause-begun g c =
    let (said, part, rest, answer, is, appended) = c.in_default.ensures.part in
    let answered = case_answered c.args.desk.now.detail c.args.desk.now.table _ c.in-Ok.case _ _ said
    c.in-Ok.ensures.read c.in-Ok.ensures.lawful answer in
    (part, inr (rest, rw is answered), appended)

pub returns-then-is_empty-clause-answers : goal.returns-then-is_empty-clause-answers
returns-then-is_empty-clause-answers g c = grind (arith, common_steps)
