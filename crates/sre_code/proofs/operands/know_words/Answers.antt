use Rattle.sre_code.proofs.Terms.{arith, are_words}
use Rattle.sre_code.proofs.operands.know_words.Goals as goal

pub returns : goal.returns
returns c = are_words _ (λ i. omega (arith, c.type_inv.words i))
