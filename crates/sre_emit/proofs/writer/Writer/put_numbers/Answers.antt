use Rattle.sre_emit.proofs.Terms.{◌-◌, arith}
use Rattle.sre_emit.proofs.Written.{no_four, wrote_four}
use Rattle.sre_emit.proofs.writer.Writer.put_numbers.Goals as goal

pub loop-at-init : goal.loop-at-init
loop-at-init g c = no_four c.args.self.now c.args.numbers.now

pub loop-at-preserved : goal.loop-at-preserved
loop-at-preserved g c =
    wrote_four c.args.numbers.now (c.loop-at.at - 1) c.loop-at.at _ (omega arith) (omega arith)
    c.word_of_four.ensures c.loop-at.invariant c.put.ensures
