use Rattle.sre_code.proofs.Terms.{refl, arith}
use Rattle.sre_code.proofs.Halves.{bit_of_two}
use Rattle.sre_code.proofs.ascii_set.join.Goals as goal

pub returns : goal.returns
returns c = rw (c.from.ensures, c.from-2.ensures) (bit_of_two c.args.low c.args.high _ (omega arith) (omega arith) refl)
