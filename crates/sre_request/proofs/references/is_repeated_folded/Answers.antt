use Rattle.sre_request.proofs.Terms.{◌∙◌, ap, Code}
use Rattle.sre_request.proofs.Repeating.{repeated_more, repeated_not}
use Rattle.sre_request.proofs.references.is_repeated_folded.Goals as goal

pub returns-then-folded-clause-repeated : goal.returns-then-folded-clause-repeated
returns-then-folded-clause-repeated g c =
    repeated_not c.character.invariant c.character-test.true
    (c.uni-uni.ensures ∙ ap (λ (x : Code). x.uni.now) c.pattern_codes.ensures)
    c.read_in_text-expected.ensures.character c.read-character.ensures.character c.folded.ensures
    c.folded-in-character.ensures c.if-folded.true

pub character-preserved : goal.character-preserved
character-preserved g c =
    repeated_more c.character.invariant c.character-test.true
    (c.uni-uni.ensures ∙ ap (λ (x : Code). x.uni.now) c.pattern_codes.ensures)
    c.read_in_text-expected.ensures.character c.read-character.ensures.character c.folded.ensures
    c.folded-in-character.ensures _ _ c.if-folded.false c.read_in_text-expected.ensures.position
    c.read_in_text-expected.ensures.stands c.read-character.ensures.position c.read-character.ensures.stands
