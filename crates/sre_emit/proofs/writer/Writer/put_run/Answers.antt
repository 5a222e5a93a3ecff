use Rattle.sre_emit.proofs.Written.{wrote_closed}
use Rattle.sre_emit.proofs.writer.Writer.put_run.Goals as goal

pub returns : goal.returns
returns g c =
    wrote_closed _ _ c.len-start.ensures.words c.put_opcode.ensures c.put_test.ensures c.put_skip.ensures
    c.put_opcode-2.ensures
