use Rattle.sre_board.proofs.Terms.{◌≡◌, ◌∙◌, ap, sym, refl, arith, Some, slice_get, slice_index_or, Frame}
use Rattle.std.proofs.lemmas.Grind.{elements}
use Rattle.sre_board.proofs.ChainLaws.{get_some}
use Rattle.sre_board.proofs.CounterStates.{no_slot_with, slot_with}
use Rattle.sre_board.proofs.slots.slot_of.Goals as goal

pub returns-in_err-slot : goal.returns-in_err-slot
returns-in_err-slot g c =
    rw c.from_residual.ensures
    (λ s few read has.
    no_slot_with c.args.words.now c.args.position c.args.shapes.now c.args.row.end c.walk.at c.walk.slot _ _ _ _
    c.node-node.ensures.chain c.frame_of.ensures c.in_err-slot.ensures s few
    ((c.walk.invariant.same s).1 (read, has)))

pub walk-preserved : goal.walk-preserved
walk-preserved g c =
    let repeat : slice_index_or c.args.shapes.now c.walk.at 0 ≡ c.node-node.result.repeat = omega arith in
    let here : slice_get c.args.shapes.now c.walk.at ≡ Some c.frame_of.result.repeat =
    get_some c.args.shapes.now c.walk.at 0 (omega arith)
    ∙ ap (λ n. Some n) (repeat ∙ ap (λ (f : Frame). f.repeat) (sym c.frame_of.ensures)) in
    record {
      there = omega (arith, c.node-node.ensures.parent, c.walk.invariant.there);
      few = c.in_ok-slot.ensures.0;
      same = λ s.
          let step = slot_with c.args.words.now c.args.position c.args.shapes.now c.args.row.end c.walk.at c.walk.slot
          _ _ _ _ c.node-node.ensures.chain c.frame_of.ensures c.in_ok-slot.slot c.in_ok-slot.ensures.2 here
          c.in_ok-slot.ensures.1 c.in_ok-slot.ensures.3 s in
          let was = c.walk.invariant.same s in
          (λ h. was.0 (step.0 h), λ h. step.1 (was.1 h));
    }

pub returns : goal.returns
returns g c =
    let all = (c.walk.invariant.same c.walk.slot).0
    (rw (c.is_empty.ensures.empty c.walk-test.false) (tt, (c.if-at-row.false, refl))) in
    (c.walk.invariant.few, all.0, all.1)

pub returns-then-at-shapes : goal.returns-then-at-shapes
returns-then-at-shapes g c = grind (arith, elements)
