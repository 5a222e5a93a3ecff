use Rattle.sre_code.proofs.Terms.{refl, arith}
use Rattle.sre_code.proofs.Halves.{in_difference}
use Rattle.sre_code.proofs.ascii_set.AsciiSet.difference.Goals as goal

pub returns : goal.returns
returns c = in_difference _ c.args.self c.args.other (omega arith) (omega arith) refl refl
