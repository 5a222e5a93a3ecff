use Rattle.std.proofs.Common.{arith, ◌∙◌, ◌+◌}
use Rattle.sre_chars.proofs.Beginnings.{place_at, place_in}
use Rattle.sre_chars.proofs.text.RefStrStrDrive.skip.Goals as goal

pub pass_blocks-behind_long-requires-clause-in_bounds : goal.pass_blocks-behind_long-requires-clause-in_bounds
pass_blocks-behind_long-requires-clause-in_bounds c =
    let bytes = c.as_bytes-bytes.ensures in
    (place_in _ _ _ _ bytes.value bytes.utf8 (c.offset.ensures ∙ c.requires.at.1) c.requires.at.2).in_bounds

pub pass_bytes-end-requires-clause-within : goal.pass_bytes-end-requires-clause-within
pass_bytes-end-requires-clause-within c =
    let bytes = c.as_bytes-bytes.ensures in
    let from = place_in _ _ _ _ bytes.value bytes.utf8 (c.offset.ensures ∙ c.requires.at.1) c.requires.at.2 in
    omega (arith, from.begun_before, from.begun_in_all)

pub overflow_add-position : goal.overflow_add-position
overflow_add-position c =
    let bytes = c.as_bytes-bytes.ensures in
    let from = place_in _ _ _ _ bytes.value bytes.utf8 (c.offset.ensures ∙ c.requires.at.1) c.requires.at.2 in
    omega (arith, from.few)

pub returns : goal.returns
returns c =
    let bytes = c.as_bytes-bytes.ensures in
    let from = place_in _ _ _ _ bytes.value bytes.utf8 (c.offset.ensures ∙ c.requires.at.1) c.requires.at.2 in
    let to = place_at _ _ _ (c.args.cursor.now.position + c.args.n) bytes.value bytes.utf8 c.pass_bytes-end.ensures.at
    (omega (arith, from.begun_before))
    in
    (omega arith, c.new.ensures.offset ∙ to.0, to.1)
