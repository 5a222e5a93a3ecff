use Rattle.sre_emit.proofs.Terms.{◌+◌, ◌≡◌, drop, refl, sym, ◌∙◌, ap, subst, arith, err_from_is_err_and, HasTree}
use Rattle.sre_emit.proofs.Terms.{HaveTrees, HaveAlternatives, items_depth, parts_depth}
use Rattle.std.proofs.Math.ListN.{drop_of_length-le}
use Rattle.sre_emit.specs.Emitting.{depth, item_depth, HasItemTree}
use Rattle.sre_emit.proofs.ItemsChecked.{cause_up, left_cause, first_item, first_part, HaveAll, some_checked}
use Rattle.sre_emit.proofs.ItemsChecked.{all_checked, narrowest, narrowest_is}
use Rattle.sre_emit.proofs.check.+check.Goals as goal

pub check_items-returns-in_err-check_item-clause-checked : goal.check_items-returns-in_err-check_item-clause-checked
check_items-returns-in_err-check_item-clause-checked t c =
    let p = err_from_is_err_and c.from_residual.result c.from_residual.ensures.1 in
    rw (p.1, p.2) (left_cause item_depth HasItemTree items_depth HaveTrees (λ x xs. omega arith) first_item
    c.args.inside c.args.items.now c.item-item.result c.loop-item.item-index c.loop-item-test.true c.item-item.is
    c.loop-item.invariant.0 c.in_err-check_item.field-0.0 c.in_err-check_item.ensures.checked)

pub check_parts-returns-in_err-check_part-clause-checked : goal.check_parts-returns-in_err-check_part-clause-checked
check_parts-returns-in_err-check_part-clause-checked t c =
    let p = err_from_is_err_and c.from_residual.result c.from_residual.ensures.1 in
    rw (p.1, p.2) (cause_up _ _ (HaveAll c.args.parts.now) (HaveAlternatives c.args.parts.now) (omega arith)
    (all_checked c.args.parts.now) c.in_err-check_part.field-0.0
    (left_cause (λ p. depth p + 1) HasTree parts_depth HaveAll (λ p ps. omega arith) first_part c.args.inside
    c.args.parts.now c.part-item.result c.loop-part.part-index c.loop-part-test.true c.part-item.is
    c.loop-part.invariant.0 c.in_err-check_part.field-0.0
    (cause_up _ _ (HasTree c.part-item.result) _ (omega arith) (λ h. h) _ c.in_err-check_part.ensures.checked)))

pub check_parts-returns-clause-checked : goal.check_parts-returns-clause-checked
check_parts-returns-clause-checked t c =
    let end = drop_of_length-le c.args.parts.now c.loop-part-test.false in (
      c.loop-part.invariant.0.deep (omega (arith, ap parts_depth end, c.requires)),
      some_checked c.args.parts.now (sym c.is_empty.ensures ∙ c.if-is_empty.false)
          (c.loop-part.invariant.0.to (subst HaveAll (sym end) (refl, tt))),
    )

pub check_parts-returns-clause-width : goal.check_parts-returns-clause-width
check_parts-returns-clause-width t c =
    let none : narrowest (drop c.loop-part.part-index c.args.parts.now) ≡ 4294967295 =
    ap narrowest (drop_of_length-le c.args.parts.now c.loop-part-test.false) in
    omega (
      arith,
      none,
      narrowest_is c.args.parts.now (sym c.is_empty.ensures ∙ c.if-is_empty.false),
      c.loop-part.invariant.1,
      c.loop-part.invariant.2,
    )
