use Rattle.sre_refusal_seal.specs.Seal.{refused}
use Rattle.sre_growth.proofs.from_slice.Goals as goal

-- the list's own growth was refused
pub invariant_of-result : goal.invariant_of-result
invariant_of-result g c = record { refused = refused _ }
