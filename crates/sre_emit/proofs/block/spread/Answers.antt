use Rattle.sre_emit.proofs.Terms.{arith}
use Rattle.std.proofs.lemmas.Grind.{common_steps}
use Rattle.sre_emit.proofs.block.spread.Goals as goal

pub loop-item-preserved-in-Some : goal.loop-item-preserved-in-Some
loop-item-preserved-in-Some g c = grind (arith, common_steps)

pub returns-then-not-is_mark : goal.returns-then-not-is_mark
returns-then-not-is_mark g c = grind (arith, common_steps)

pub loop-item-preserved : goal.loop-item-preserved
loop-item-preserved g c = grind (arith, common_steps)

pub returns : goal.returns
returns g c = grind (arith, common_steps)
