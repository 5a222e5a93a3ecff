use Rattle.std.proofs.Common.{rules}
use Rattle.sre_c.proofs.sre_answer_bytes.Goals as goal

pub returns-clause-answers : goal.returns-clause-answers
returns-clause-answers c = search rules
