use Rattle.sre_lines.proofs.Terms.{take, All, IsFlag}
use Rattle.sre_lines.proofs.cause.are_flags.Given as goal

abbrev pub invariant-loop-letter : goal.invariant-loop-letter
invariant-loop-letter l = All IsFlag (take l.letter-index l.letters)
