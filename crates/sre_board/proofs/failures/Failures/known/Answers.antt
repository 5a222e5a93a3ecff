use Rattle.sre_board.proofs.Terms.{arith}
use Rattle.std.proofs.lemmas.Grind.{common_steps}
use Rattle.sre_board.proofs.failures.Failures.known.Goals as goal

pub returns-then-index-bit-eq1-clause-told : goal.returns-then-index-bit-eq1-clause-told
returns-then-index-bit-eq1-clause-told g c = grind (arith, common_steps)

pub returns-else-index-bit-eq1-clause-told : goal.returns-else-index-bit-eq1-clause-told
returns-else-index-bit-eq1-clause-told g c = grind (arith, common_steps)
