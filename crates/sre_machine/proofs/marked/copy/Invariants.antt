use Rattle.std.proofs.Common.{◌≡◌, take}
use Rattle.sre_machine.proofs.marked.copy.Given as goal

abbrev pub invariant-mark : goal.invariant-mark
invariant-mark g l = l.list.items ≡ take l.mark-index l.raw
