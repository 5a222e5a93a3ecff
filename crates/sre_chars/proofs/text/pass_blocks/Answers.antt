use Rattle.sre_chars.proofs.Terms.{arith, ap, ◌∙◌, count_by, take, length, length-drop, begins_char, take_rest}
use Rattle.sre_chars.proofs.text.pass_blocks.Goals as goal
use Rattle.sre_chars.proofs.Beginnings.{begun_block}

pub blocks-2-preserved : goal.blocks-2-preserved
blocks-2-preserved g c =
    let rest = take_rest c.args.bytes.now c.blocks-2.offset in
    let block = c.in-Some.ensures.cases.0 ∙ ap (take g.row.N) rest in
    let counted = c.beginnings_in_block-n.ensures.value ∙ ap (count_by begins_char) block in
    let more = begun_block c.args.bytes.now c.blocks-2.offset g.row.N in
    let left = length-drop c.blocks-2.offset c.args.bytes.now in
    (omega (arith, c.in-Some.ensures.cases.2, ap length rest, left), omega (arith, counted, more))
