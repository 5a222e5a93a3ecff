use Rattle.sre_code.proofs.Terms.{refl}
use Rattle.sre_code.proofs.Halves.{below_in_low, below_in_high, below_all}
use Rattle.sre_code.proofs.ascii_set.AsciiSet.below.Goals as goal

pub returns-then-end-lt64 : goal.returns-then-end-lt64
returns-then-end-lt64 c = below_in_low _ c.args.end c.if-end-lt64.true refl refl

pub returns-then-end-lt128 : goal.returns-then-end-lt128
returns-then-end-lt128 c = below_in_high _ c.args.end c.if-end-lt64.false c.if-end-lt128.true refl refl

pub returns-else-end-lt128 : goal.returns-else-end-lt128
returns-else-end-lt128 c = below_all _ c.args.end c.if-end-lt128.false refl refl
