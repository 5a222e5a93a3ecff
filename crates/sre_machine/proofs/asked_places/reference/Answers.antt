use Rattle.std.proofs.Common.{◌+◌, refl}
use Rattle.sre_machine.proofs.Analyses.{had_at}
use Rattle.sre_machine.proofs.asked_places.reference.Goals as goal

pub returns-clause-next : goal.returns-clause-next
returns-clause-next c =
    had_at c.args.list.now (c.args.place + 2) (c.args.place + 2) c.union.result c.instruction_at.result refl
    c.union.ensures.other c.instruction_at.ensures
