use Rattle.sre_code.proofs.Terms.{arith, sym, subst, IsHeld, loop_price}
use Rattle.sre_code.proofs.PricedItems.{held_same, held_plus, held_times, held_closed}
use Rattle.sre_code.proofs.code.prices.loop_price.Goals as goal

pub returns : goal.returns
returns c = λ x held.
    let one = held_same 1 (omega arith) in
    let slots = held_same c.args.slots (omega arith) in
    let inside = c.steps_before-inside.ensures x 1 held one in
    let both = held_plus _ _ _ _ _ (c.cost_before.ensures x 1 held one) inside c.saturating_add.ensures in
    let state = held_plus _ 1 _ 1 _ both one c.saturating_add-state.ensures in
    let states = held_times _ _ _ _ _ slots state c.saturating_mul.ensures in
    let own = held_plus _ _ _ _ _ states inside c.saturating_add-cost.ensures in
    let all = held_plus _ 2 _ 2 _ own (held_same 2 (omega arith)) c.saturating_add-2.ensures in
    let each = held_plus _ 1 _ 1 _ slots one c.saturating_add-3.ensures in
    subst (λ p. IsHeld (loop_price c.args.slots x) p) (sym c.closed.ensures)
    (held_closed _ _ _ _ _ _ all each held.apart)
