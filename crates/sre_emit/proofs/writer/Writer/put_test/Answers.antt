use Rattle.std.proofs.Common.{rules}
use Rattle.sre_emit.proofs.Written.{wrote_closed}
use Rattle.sre_emit.proofs.writer.Writer.put_test.Goals as goal

pub returns-in-In : goal.returns-in-In
returns-in-In g c =
    search (
      rules,
      wrote_closed _ _ c.len-start.ensures.words c.put_opcode-in-In.ensures c.put_set.ensures
          c.put_skip.ensures c.put_opcode-in-In-2.ensures,
    )
