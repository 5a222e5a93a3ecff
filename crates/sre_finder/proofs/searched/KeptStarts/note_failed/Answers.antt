use Rattle.sre_finder.proofs.Terms.{refl, sym, subst, words_of, uni_of, EndStands}
use Rattle.sre_finder.proofs.Covered.{suits_same}
use Rattle.sre_finder.proofs.searched.KeptStarts.note_failed.Goals as goal

pub returns : goal.returns
returns g c = λ string code suits. (
  suits_same (words_of code) (uni_of code) _ _ c.fail.ensures.same refl refl refl suits.0,
  subst (EndStands (g.S.StrDrive.stands string)) (sym c.fail.ensures.end) suits.1,
)
