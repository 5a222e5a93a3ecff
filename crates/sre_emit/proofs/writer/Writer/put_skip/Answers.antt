use Rattle.sre_emit.proofs.Terms.{ap, ◌+◌, ◌-◌, ◌∷◌}
use Rattle.sre_emit.proofs.Written.{wrote_more, wrote_equal}
use Rattle.sre_emit.proofs.writer.Writer.put_skip.Goals as goal

pub returns : goal.returns
returns g c =
    wrote_equal (ap (λ n. (n - c.args.start + c.args.extra) ∷ c.args.operands.now) c.len.ensures.words)
    (wrote_more c.put_all.ensures c.put_count.ensures)
