use Rattle.sre_emit.proofs.Written.{wrote_more}
use Rattle.sre_emit.proofs.writer.Writer.put_code.Goals as goal

pub returns : goal.returns
returns g c = wrote_more c.put.ensures c.put_part.ensures
