use Rattle.sre_emit.proofs.Terms.{◌*◌, drop, packed, Wrote}
use Rattle.sre_emit.proofs.writer.Writer.put_numbers.Given as goal

abbrev pub invariant-loop-at : goal.invariant-loop-at
invariant-loop-at g l = Wrote g.row.A.Denot l.initial.self l.self (packed (drop (4 * l.at) l.numbers))
