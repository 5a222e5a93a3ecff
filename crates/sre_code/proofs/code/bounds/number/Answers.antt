use Rattle.sre_code.proofs.Terms.{rules}
use Rattle.sre_code.proofs.code.bounds.number.Goals as goal

pub returns : goal.returns
returns c = λ x held.
    let bound = c.bound_of.ensures x held in
    search rules
