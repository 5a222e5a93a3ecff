use Rattle.sre_lines.proofs.Terms.{IfOk-weaker}
use Rattle.sre_lines.proofs.cases.searched.search.Goals as goal

pub returns-clause-answer : goal.returns-clause-answer
returns-clause-answer g c = λ t is.
    IfOk-weaker c.search.result _ _ (λ b each. each t is) c.search.ensures.answers.answer
