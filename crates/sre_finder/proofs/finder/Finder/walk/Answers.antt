use Rattle.std.proofs.Common.{rules}
use Rattle.sre_finder.proofs.finder.Finder.walk.Goals as goal

pub invariant_of-result : goal.invariant_of-result
invariant_of-result g c = record { own = cc; known = ∣ rw c.reset.ensures.end tt ∣₁ }

pub returns-clause-req : goal.returns-clause-req
returns-clause-req g c = search rules
