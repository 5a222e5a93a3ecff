use Rattle.std.proofs.Common.{arith}
use Rattle.std.proofs.lemmas.Grind.{elements}
use Rattle.sre_machine.proofs.admitting.admitted_by_place.Goals as goal

pub place-preserved : goal.place-preserved
place-preserved g c = grind (arith, elements)
