use Rattle.sre_lines.proofs.Terms.{arith}
use Rattle.std.proofs.lemmas.Grind.{common_steps}
use Rattle.sre_lines.proofs.line.split_once.Goals as goal

pub returns-clause-parts : goal.returns-clause-parts
returns-clause-parts c = grind (arith, common_steps)

pub returns-clause-first : goal.returns-clause-first
returns-clause-first c = grind (arith, common_steps)
