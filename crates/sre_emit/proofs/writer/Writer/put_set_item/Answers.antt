use Rattle.std.proofs.Common.{rules}
use Rattle.sre_emit.proofs.Written.{wrote_more}
use Rattle.sre_emit.proofs.writer.Writer.put_set_item.Goals as goal

pub returns-in-Charset : goal.returns-in-Charset
returns-in-Charset g c = search (rules, wrote_more c.put_all-in-Charset.ensures c.put.ensures)

pub returns-in-BigCharset : goal.returns-in-BigCharset
returns-in-BigCharset g c =
    search (
      rules,
      wrote_more (wrote_more (wrote_more c.put_all-in-BigCharset.ensures c.put_numbers.ensures)
          c.put_count.ensures) c.put-in-BigCharset.ensures,
    )
