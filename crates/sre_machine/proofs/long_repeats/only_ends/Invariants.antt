use Rattle.std.proofs.Common.{length, ◌-◌}
use Rattle.sre_machine.proofs.long_repeats.only_ends.Given as goal

abbrev pub decreases-mark : goal.decreases-mark
decreases-mark g l = length l.words - l.place
