use Rattle.sre_code.proofs.Terms.{arith, subst, sym, max, ◌+◌, Held}
use Rattle.sre_code.proofs.PricedItems.{held_same, held_times, held_plus, held_max}
use Rattle.sre_code.proofs.code.bounds.bound_of.Goals as goal

pub returns : goal.returns
returns c = λ x held.
    let two = held_same 2 (omega arith) in
    let since = held_plus x.since 2 _ 2 _ held.since two c.saturating_add.ensures in
    let most = held_max _ _ _ _ since held.most in
    let behind = c.cost_before.ensures x.all 2 held.all two in
    let cost = held_plus _ x.all.apart _ _ _ behind held.all.apart c.saturating_add-cost.ensures in
    let sides = held_times _ _ _ _ _ cost (held_same c.args.sides (omega arith)) c.saturating_mul.ensures in
    c.bound_by.ensures _ _ (subst (λ m. Held (max (x.since + 2) x.most) m) (sym c.max-most.ensures) most) sides
