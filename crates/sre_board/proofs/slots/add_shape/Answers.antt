use Rattle.sre_board.proofs.Terms.{◌∷◌, [], ◌++◌, ap, ◌∙◌, arith, append_assoc, List, ℕ}
use Rattle.sre_board.proofs.CounterStates.{place_more, slots_more, none_few, cut_back, shape_whole}
use Rattle.sre_board.proofs.slots.add_shape.Goals as goal

pub walk-preserved : goal.walk-preserved
walk-preserved g c = record {
  there = omega (arith, c.node-node.ensures.parent, c.node-node.ensures.there);
  few = c.more_slots-slots.ensures.few;
  more = (
    c.walk.invariant.more.0 ++ c.node-node.result.repeat ∷ [],
    c.in_ok-push.ensures.items
        ∙ ap (λ (xs : List ℕ). xs ++ c.node-node.result.repeat ∷ []) c.walk.invariant.more.1
        ∙ append_assoc c.args.shapes.now.items c.walk.invariant.more.0 (c.node-node.result.repeat ∷ []),
  );
  rest =
      place_more _ _ _ _ _ _ _ c.walk.invariant.rest c.node-node.ensures.chain c.in_ok-push.ensures.items;
  all = slots_more _ _ _ _ _ _ _ c.walk.invariant.all c.node-node.ensures.chain c.more_slots-slots.ensures.all;
}

pub returns-clause-shape : goal.returns-clause-shape
returns-clause-shape g c = λ _.
    shape_whole _ _ _ _ (c.is_empty.ensures.empty c.walk-test.false) c.walk.invariant.rest

pub returns-then-slots-eq0-clause-more : goal.returns-then-slots-eq0-clause-more
returns-then-slots-eq0-clause-more g c = (
  [],
  cut_back c.args.shapes.now.items c.walk.shapes.items c.truncate.new.self.items c.walk.invariant.more.0
      c.len-held.result c.walk.invariant.more.1 c.truncate.ensures.items
      (omega (arith, c.len-held.ensures, c.args.shapes.now.ok.0)),
)

pub returns-then-slots-eq0-clause-slots : goal.returns-then-slots-eq0-clause-slots
returns-then-slots-eq0-clause-slots g c =
    none_few _ _ _ _ _ _ _ c.walk.invariant.all c.node-node.ensures.chain c.more_slots-slots.ensures.all
    c.if-slots-eq0.true
