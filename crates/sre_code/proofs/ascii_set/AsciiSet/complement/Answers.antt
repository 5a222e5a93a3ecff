use Rattle.sre_code.proofs.Terms.{refl, arith}
use Rattle.sre_code.proofs.Halves.{in_complement}
use Rattle.sre_code.proofs.ascii_set.AsciiSet.complement.Goals as goal

pub returns : goal.returns
returns c = in_complement _ c.args.self (omega arith) (omega arith) refl refl
