use Rattle.sre_chars.proofs.Terms.{◌≤◌, ◌-◌, arith, ap, ◌∙◌, count_by, drop, take, length-take-le, begins_char}
use Rattle.sre_chars.proofs.Beginnings.{begun_block_back}
use Rattle.sre_chars.proofs.text.pass_blocks_back.Goals as goal

pub blocks-2-preserved : goal.blocks-2-preserved
blocks-2-preserved g c =
    let front = take c.blocks-2.offset c.args.bytes.now in
    let long = length-take-le c.blocks-2.offset c.args.bytes.now (omega arith) in
    let block = c.in-Some.ensures.cases.1 ∙ ap (λ n. drop (n - g.row.N) front) long in
    let counted = c.beginnings_in_block-n.ensures.value ∙ ap (count_by begins_char) block in
    let room : g.row.N ≤ c.blocks-2.offset = omega (arith, c.in-Some.ensures.cases.2, long) in
    let less = begun_block_back c.args.bytes.now c.blocks-2.offset g.row.N room in
    (omega arith, omega (arith, counted, less), λ none. absurd (omega arith))
