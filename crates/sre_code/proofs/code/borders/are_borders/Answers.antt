use Rattle.sre_code.proofs.Terms.{arith}
use Rattle.sre_code.proofs.Borders.{more_wrong}
use Rattle.sre_code.proofs.code.borders.are_borders.Goals as goal

pub returns-then-overlaps-n : goal.returns-then-overlaps-n
returns-then-overlaps-n c = (
  λ e. absurd (cc),
  λ r. absurd (more_wrong c.args.prefix.now c.args.overlaps.now c.front.n c.next_border.result (omega arith)
      c.next_border.ensures c.if-overlaps-n.true r),
)
