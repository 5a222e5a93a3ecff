use Rattle.sre_code.proofs.Terms.{refl}
use Rattle.sre_code.proofs.Halves.{in_union}
use Rattle.sre_code.proofs.ascii_set.AsciiSet.union.Goals as goal

pub returns : goal.returns
returns c = in_union _ c.args.self c.args.other refl refl
