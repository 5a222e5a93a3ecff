use Rattle.sre_emit.proofs.Terms.{◌+◌, [], ◌∷◌, None, Some, refl, sym, ◌∙◌, ap, drop-length, item_has_alternatives}
use Rattle.sre_emit.proofs.Written.{wrote_closed, wrote_guarded, wrote_before, wrote_counted, wrote_nothing, wrote_more}
use Rattle.sre_emit.proofs.Written.{written_more}
use Rattle.sre_emit.proofs.ItemsWritten.{items_words, parts_more, parts_all, item_written, each_true, all_parts}
use Rattle.sre_emit.specs.declared.part.Item.TheVariants as item
use Rattle.sre_emit.specs.declared.part.Item.TheOpen as layer
use Rattle.sre_emit.proofs.writer.Writer.+put.Goals as goal

pub put_items-loop-at-init : goal.put_items-loop-at-init
put_items-loop-at-init g t c =
    (rw drop-length (wrote_nothing _), each_true item_has_alternatives c.args.items.now c.requires)

pub put_items-loop-at-preserved : goal.put_items-loop-at-preserved
put_items-loop-at-preserved g t c = (
  written_more items_words _ _ _ c.loop-at-test.true c.loop-at.auto.at c.index-items-at.is refl
      c.loop-at.invariant.0 c.put_item.ensures,
  c.loop-at.invariant.1,
)

pub put_closed-returns : goal.put_closed-returns
put_closed-returns g t c =
    wrote_closed _ _ c.len-start.ensures.words c.put_opcode.ensures c.put_part.ensures c.put_skip.ensures
    c.put_opcode-2.ensures

pub put_before-returns : goal.put_before-returns
put_before-returns g t c =
    wrote_guarded _ _ _ c.len-start.ensures.words c.put_skip.ensures c.put_opcode.ensures c.put_part.ensures
    c.put_skip-2.ensures

pub put_parts-loop-at-init : goal.put_parts-loop-at-init
put_parts-loop-at-init g t c = (rw drop-length c.put.ensures, all_parts c.args.parts.now c.requires)

pub put_parts-loop-at-preserved : goal.put_parts-loop-at-preserved
put_parts-loop-at-preserved g t c = (
  parts_more _ _ _ _ c.loop-at-test.true c.loop-at.auto.at c.index-parts-at.is c.len-start.ensures.words
      c.loop-at.invariant.0 c.put_before.ensures,
  c.loop-at.invariant.1,
)

pub put_parts-returns : goal.put_parts-returns
put_parts-returns g t c =
    wrote_more (parts_all c.args.parts.now c.loop-at.at c.requires c.loop-at-test.false c.loop-at.invariant.0)
    c.put_opcode.ensures

pub put_item-returns-in-None : goal.put_item-returns-in-None
put_item-returns-in-None g t c =
    item_written (layer.Exists _ _ None)
    (c.in-Exists.is ∙ ap (λ n. item.Exists c.in-Exists.group c.in-Exists.yes n) c.in-None.is
    ∙ sym (item.rolls-Exists _ _ None))
    (wrote_more (wrote_counted _ (λ n. (n + 2) ∷ []) c.len-start.ensures.words c.put_part.ensures
    c.put_skip.ensures) c.put_all-in-None.ensures)

pub put_item-returns-in-Some : goal.put_item-returns-in-Some
put_item-returns-in-Some g t c =
    item_written (layer.Exists _ _ (Some _))
    (c.in-Exists.is ∙ ap (λ n. item.Exists c.in-Exists.group c.in-Exists.yes n) c.in-Some.is
    ∙ sym (item.rolls-Exists _ _ (Some _)))
    (wrote_more (wrote_before _ _ _ c.len-start.ensures.words c.put_part-in-Some.ensures c.put_before.ensures)
    c.put_all-in-Some.ensures)
