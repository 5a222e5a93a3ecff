use Rattle.std.proofs.Common.{arith}
use Rattle.std.proofs.lemmas.Grind.{elements}
use Rattle.sre_machine.proofs.set_members.fill.Goals as goal

pub item-preserved : goal.item-preserved
item-preserved g c = grind (arith, elements)
