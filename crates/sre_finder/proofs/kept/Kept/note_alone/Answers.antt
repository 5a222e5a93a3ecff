use Rattle.sre_finder.proofs.Terms.{refl}
use Rattle.sre_finder.proofs.Covered.{suits_same}
use Rattle.sre_finder.proofs.kept.Kept.note_alone.Goals as goal

pub returns : goal.returns
returns c = record { suits = λ ws uni. suits_same ws uni _ _ c.pay.ensures.same refl refl refl }
