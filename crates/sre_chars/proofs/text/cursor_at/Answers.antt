use Rattle.std.proofs.Common.{◌≡◌, ◌+◌, refl, ◌∙◌, arith}
use Rattle.sre_chars.proofs.Beginnings.{place_behind}
use Rattle.sre_chars.proofs.text.cursor_at.Goals as goal

pub overflow_add-position : goal.overflow_add-position
overflow_add-position c =
    let there = place_behind _ _ _ _ _ _ c.as_bytes.ensures.value c.utf8.text (c.offset.ensures ∙ c.requires.at.1)
    c.requires.at.2 (omega (arith, c.offset.ensures, c.requires.behind))
    (c.is_char_boundary.ensures.test.0 c.if-not-is_char_boundary.false) c.beginnings-between.ensures in
    omega (arith, c.position.ensures, there.1, there.2, c.as_bytes.ensures.len)

pub returns-clause-stands : goal.returns-clause-stands
returns-clause-stands c =
    let there = place_behind _ _ _ _ _ _ c.as_bytes.ensures.value c.utf8.text (c.offset.ensures ∙ c.requires.at.1)
    c.requires.at.2 (omega (arith, c.offset.ensures, c.requires.behind))
    (c.is_char_boundary.ensures.test.0 c.if-not-is_char_boundary.false) c.beginnings-between.ensures in
    let at : c.new.result.position ≡ c.args.from.position + c.beginnings-between.result =
    omega (arith, c.new.ensures.position, c.position.ensures) in
    rw at (refl, c.new.ensures.offset ∙ there.0, there.1)
