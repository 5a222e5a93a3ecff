use Rattle.sre_recipes.proofs.Terms.{rules}
use Rattle.sre_recipes.proofs.found.FoundTexts.new.Goals as goal

pub invariant_of-result : goal.invariant_of-result
invariant_of-result g c = record { here = ∣ rw c.walk.ensures.req (search rules) ∣₁ }
