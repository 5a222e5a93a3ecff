use Rattle.sre_emit.proofs.Terms.{◌-◌, arith, refl, get_or_default}
use Rattle.sre_emit.proofs.Written.{written_more}
use Rattle.sre_emit.proofs.writer.Writer.put_all.Goals as goal

pub loop-at-preserved : goal.loop-at-preserved
loop-at-preserved g c =
    written_more (λ l. l) c.args.words.now _ c.loop-at.at c.loop-at-test.true c.loop-at.auto.at
    (get_or_default _ (c.loop-at.at - 1) 0 _ (omega arith)) refl c.loop-at.invariant c.put.ensures
