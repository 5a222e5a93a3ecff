use Rattle.sre_code.proofs.Claimed.{literal_end}
use Rattle.sre_code.proofs.code.claims.is_literal.Goals as goal

pub returns : goal.returns
returns c = λ tree whole.
    literal_end _ _ _ _ tree c.requires.block c.if-words-eq0.false c.if-words.false c.requires.left whole
