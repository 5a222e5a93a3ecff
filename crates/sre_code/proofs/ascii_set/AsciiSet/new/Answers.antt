use Rattle.sre_code.proofs.Terms.{false, refl}
use Rattle.sre_code.proofs.Halves.{set_in_none, by_halves}
use Rattle.sre_code.proofs.ascii_set.AsciiSet.new.Goals as goal

pub returns : goal.returns
returns c = by_halves _ (λ c. false) (λ k h. set_in_none k) (λ k h. set_in_none k) (λ c h. refl)
