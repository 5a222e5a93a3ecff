use Rattle.sre_recipes.proofs.Terms.{sym, ◌∙◌, chars_from_encodes, offset_boundary}
use Rattle.sre_recipes.proofs.Cuts.{offset_order, slice_encodes}
use Rattle.sre_recipes.proofs.texts.cut.Goals as goal

pub range-requires-clause-start_le_end : goal.range-requires-clause-start_le_end
range-requires-clause-start_le_end c =
    rw (c.offset.ensures, c.offset-2.ensures, c.requires.start.1, c.requires.end.1)
    (offset_order _ _ _ c.requires.forward)

pub range-requires-clause-start_boundary : goal.range-requires-clause-start_boundary
range-requires-clause-start_boundary c =
    λ _. rw (c.offset.ensures, c.requires.start.1) (offset_boundary _ _ c.utf8.text)

pub range-requires-clause-end_boundary : goal.range-requires-clause-end_boundary
range-requires-clause-end_boundary c = rw (c.offset-2.ensures, c.requires.end.1) (offset_boundary _ _ c.utf8.text)

pub returns : goal.returns
returns c =
    let value = rw (c.offset.ensures ∙ c.requires.start.1, c.offset-2.ensures ∙ c.requires.end.1)
    at c.range.ensures.value in
    let cut = value ∙ slice_encodes _ _ _ c.utf8.text c.requires.forward in
    sym (chars_from_encodes _ c.range.result.now c.range.utf8 (sym cut))
