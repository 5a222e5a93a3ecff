use Rattle.sre_emit.proofs.Terms.{drop, Wrote}
use Rattle.sre_emit.proofs.writer.Writer.put_all.Given as goal

abbrev pub invariant-loop-at : goal.invariant-loop-at
invariant-loop-at g l = Wrote g.row.A.Denot l.initial.self l.self (drop l.at l.words)
