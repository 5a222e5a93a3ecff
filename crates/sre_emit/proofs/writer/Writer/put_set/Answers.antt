use Rattle.sre_emit.proofs.Written.{written_more, set_cons, set_items_words}
use Rattle.sre_emit.proofs.writer.Writer.put_set.Goals as goal

pub loop-at-preserved : goal.loop-at-preserved
loop-at-preserved g c =
    written_more set_items_words _ _ _ c.loop-at-test.true c.loop-at.auto.at c.index-set-at.is
    (set_cons _ _) c.loop-at.invariant c.put_set_item.ensures
