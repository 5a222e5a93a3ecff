use Rattle.sre_finder.proofs.Terms.{refl, words_of, uni_of, code_of}
use Rattle.sre_finder.proofs.Covered.{filters_kept}
use Rattle.sre_finder.proofs.searched.KeptStarts.beyond.Goals as goal

pub beyond-requires-clause-suits : goal.beyond-requires-clause-suits
beyond-requires-clause-suits g c =
    let code = code_of c.args.req.now in
    let suits = c.requires.suits.0 in
    ((suits.starts code refl refl, suits.whole code refl refl), c.requires.suits.1)

pub returns-clause-suits : goal.returns-clause-suits
returns-clause-suits g c =
    let code = code_of c.args.req.now in (
      filters_kept (words_of code) (uni_of code) code refl refl _ _ c.requires.suits.0 c.beyond.ensures.suits.0,
      c.beyond.ensures.suits.1,
    )
