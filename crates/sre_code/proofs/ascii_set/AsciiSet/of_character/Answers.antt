use Rattle.sre_code.proofs.Terms.{refl}
use Rattle.sre_code.proofs.Halves.{one_in_low, one_in_high}
use Rattle.sre_code.proofs.ascii_set.AsciiSet.of_character.Goals as goal

pub returns-then-ch-lt64 : goal.returns-then-ch-lt64
returns-then-ch-lt64 c = one_in_low _ c.args.ch c.if-ch-lt64.true refl refl

pub returns-then-ch-lt128 : goal.returns-then-ch-lt128
returns-then-ch-lt128 c = one_in_high _ c.args.ch c.if-ch-lt64.false c.if-ch-lt128.true refl refl
