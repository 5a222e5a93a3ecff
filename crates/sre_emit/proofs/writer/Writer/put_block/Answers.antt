use Rattle.sre_emit.proofs.Terms.{map, sym, ◌∙◌, item_of, in_order}
use Rattle.sre_emit.proofs.Blocks.{full_block}
use Rattle.sre_emit.proofs.Written.{wrote_equal}
use Rattle.sre_emit.proofs.writer.Writer.put_block.Goals as goal

pub returns-in-Ok-border_lengths : goal.returns-in-Ok-border_lengths
returns-in-Ok-border_lengths g c =
    let words = c.deref-in-Ok-border_lengths.ensures.value in
    let overlaps = c.deref-in-Ok-border_lengths-2.ensures.value in
    let same = words ∙ sym c.deref.ensures.value in
    wrote_equal (full_block (in_order (map item_of c.args.items.now)) c.leading-adjacent.result c.args.least
    c.prefix_flags-flags.result _ _ c.deref-in-Ok-border_lengths-2.result.now c.leading-adjacent.ensures.count
    c.if-adjacent-eq0.false (words ∙ c.in-Ok.ensures) (cc (same, overlaps, c.in-Ok-border_lengths.ensures.right))
    (cc (same, overlaps, c.in-Ok-border_lengths.ensures.length)) c.requires c.prefix_flags-flags.ensures
    c.leading-adjacent.ensures.all) c.put_prefix.ensures
