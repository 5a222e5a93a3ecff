use Rattle.sre_chars.proofs.Terms.{arith, ap, ◌∙◌, count_by, begins_char}
use Rattle.sre_chars.proofs.Beginnings.{first_block}
use Rattle.sre_chars.proofs.text.beginnings_in_blocks.Goals as goal

pub blocks-2-preserved : goal.blocks-2-preserved
blocks-2-preserved g c =
    let counted = c.beginnings_in_block-count.ensures.value ∙ ap (count_by begins_char) (c.in-Some.ensures.cases.0) in
    let rest = ap (count_by begins_char) (c.in-Some.ensures.cases.1) in
    omega (arith, counted, rest, first_block c.blocks-2.left.now g.row.N)
