use Rattle.sre_code.proofs.Terms.{arith, ◌+◌, ◌/◌}
use Rattle.sre_code.proofs.PricedItems.{held_same, held_times, held_plus}
use Rattle.sre_code.proofs.code.bounds.bound_by.Goals as goal

pub returns : goal.returns
returns c = λ x y most cost.
    let longer = held_same (c.args.longest / 8 + 1) (omega arith) in
    let both = held_plus x y _ _ _ most cost c.saturating_add.ensures in
    let each = held_plus _ 1 _ 1 _ both (held_same 1 (omega arith)) c.saturating_add-each.ensures in
    let long = held_times _ _ _ _ _ each longer c.saturating_mul-long.ensures in
    let more = held_plus _ 32 _ 32 _ long (held_same 32 (omega arith)) c.saturating_add-2.ensures in
    let all = held_times _ _ _ _ _ (held_same c.args.positions (omega arith)) more c.saturating_mul.ensures in
    record { is = omega (arith, all.is) }
