use Rattle.sre_code.proofs.Terms.{arith, sym, subst, IsHeld, possessive_price}
use Rattle.sre_code.proofs.PricedItems.{held_same, held_plus, held_times, held_closed}
use Rattle.sre_code.proofs.code.prices.possessive_price.Goals as goal

pub returns : goal.returns
returns c = λ x held.
    let one = held_same 1 (omega arith) in
    let two = held_same 2 (omega arith) in
    let slots = held_same c.args.slots (omega arith) in
    let state = held_plus _ 1 _ 1 _ (c.steps_before.ensures x 2 held two) one c.saturating_add-state.ensures in
    let behind = c.cost_before.ensures x 2 held two in
    let apart = held_plus _ x.apart _ _ _ behind held.apart c.saturating_add-apart.ensures in
    let states = held_times _ _ _ _ _ slots state c.saturating_mul.ensures in
    let all = held_plus _ 1 _ 1 _ states one c.saturating_add.ensures in
    subst (λ p. IsHeld (possessive_price c.args.slots x) p) (sym c.closed.ensures)
    (held_closed _ _ _ _ _ _ all slots apart)
