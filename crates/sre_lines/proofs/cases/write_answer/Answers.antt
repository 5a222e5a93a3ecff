-- Where an allocation fails, that is the answer, and a write that fails leaves a part of one.
use Rattle.sre_lines.proofs.Terms.{◌++◌, ◌∷◌, [], ◌∙◌, ap, refl, inr, on_ok_weaker}
use Rattle.std.proofs.Common.{codes}
use Rattle.sre_lines.proofs.FileLines.{answer_begun}
use Rattle.sre_lines.proofs.cases.write_answer.Goals as goal

pub returns-in-Err-clause-answer : goal.returns-in-Err-clause-answer
returns-in-Err-clause-answer g c =
    on_ok_weaker c.write_whole-in-Err.result (λ appended. (codes "memory", inr (inr refl), appended))
    c.write_whole-in-Err.ensures.whole

pub returns-in-Ok-clause-part : goal.returns-in-Ok-clause-part
returns-in-Ok-clause-part g c =
    let (said, answer, is) = c.in-Ok.ensures in
    answer_begun _ _ _ said _ c.write_whole.result answer
    (c.as_bytes.ensures.value ∙ is ∙ ap (λ bytes. bytes ++ (said ++ 10 ∷ [])) c.clear.ensures.bytes)
    c.write_whole.ensures.part

pub returns-in-Err-clause-part : goal.returns-in-Err-clause-part
returns-in-Err-clause-part g c =
    answer_begun _ _ _ (codes "memory") _ c.write_whole-in-Err.result (inr (inr refl)) refl
    c.write_whole-in-Err.ensures.part
