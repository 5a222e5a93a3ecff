use Rattle.sre_machine.proofs.Terms.{Instruction, Shorter, SkipsBoth, run_of}
use Rattle.sre_machine.proofs.character_repeats.first_in_place.Given as goal

abbrev pub invariant-count : goal.invariant-count
invariant-count g l =
    SkipsBoth (run_of l.req) (Shorter l.tail l.count) l.fn.start (Instruction l.tail) (Shorter l.tail l.left) l.cursor

abbrev pub decreases-count : goal.decreases-count
decreases-count g l = l.left
