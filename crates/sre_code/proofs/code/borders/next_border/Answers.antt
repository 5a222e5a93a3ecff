use Rattle.sre_code.proofs.Terms.{arith}
use Rattle.sre_code.proofs.Borders.{one_longer, none_longer, starts, goes_down, starts_most, goes_down_most, falls}
use Rattle.sre_code.proofs.code.borders.next_border.Goals.{then-border-test+else-prefix-border, else-border-test}
use Rattle.sre_code.proofs.code.borders.next_border.Goals as goal

pub border-init : goal.border-init
border-init c = record {
  border = starts _ _ _ c.requires.some c.requires.right;
  most = starts_most _ _ _ c.requires.some c.requires.right;
}

pub border-preserved : goal.border-preserved
border-preserved c = record {
  border = goes_down _ _ _ _ c.border.invariant.border c.border-test.true c.requires.right;
  most = goes_down_most _ _ _ _ c.border.invariant.border c.border.invariant.most c.border-test.true
      c.if-prefix-border.true c.requires.right;
}

pub border-smaller : goal.border-smaller
border-smaller c = falls _ _ _ _ c.border.invariant.border c.border-test.true c.requires.right

pub returns-then-prefix-border-2 : goal.returns-then-prefix-border-2
returns-then-prefix-border-2 c =
    one_longer _ _ _ c.border.invariant.border c.border.invariant.most c.if-prefix-border-2.true

pub returns-else-prefix-border-2 : goal.returns-else-prefix-border-2
returns-else-prefix-border-2 c =
    none_longer _ _ _ c.border.invariant.most c.if-prefix-border-2.false
    (elim c.border-test.branch [
      | then-border-test+else-prefix-border w ↦ absurd (c.if-prefix-border-2.false w.if-prefix-border.false)
      | else-border-test w ↦ omega (arith, w.border-test.false)
    ])
