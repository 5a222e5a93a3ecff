use Rattle.sre_emit.proofs.Terms.{drop, Wrote}
use Rattle.sre_emit.proofs.Written.{set_items_words}
use Rattle.sre_emit.proofs.writer.Writer.put_set.Given as goal

abbrev pub invariant-loop-at : goal.invariant-loop-at
invariant-loop-at g l = Wrote g.row.A.Denot l.initial.self l.self (set_items_words (drop l.at l.set))
