use Rattle.sre_code.proofs.Terms.{arith}
use Rattle.sre_code.proofs.PricedItems.{held_same, held_times}
use Rattle.sre_code.proofs.code.bounds.bits_by.Goals as goal

pub returns : goal.returns
returns c =
    let two = held_times c.args.slots 2 _ 2 _ (held_same c.args.slots (omega arith)) (held_same 2 (omega arith))
    c.saturating_mul.ensures in
    held_times _ _ _ _ _ two (held_same c.args.positions (omega arith)) c.saturating_mul-2.ensures
