use Rattle.sre_emit.proofs.Terms.{arith}
use Rattle.sre_emit.proofs.Blocks.{prefix_written}
use Rattle.sre_emit.proofs.writer.Writer.put_prefix.Goals as goal

pub returns : goal.returns
returns g c =
    prefix_written c.args.flags c.args.width c.args.adjacent _ _ c.args.words.now c.args.overlaps.now
    (omega (arith, c.requires.same)) (omega arith) c.put_all.ensures c.put_all-2.ensures c.put_count.ensures
    c.put_count-2.ensures c.put_all-3.ensures c.put_count-3.ensures c.put.ensures
