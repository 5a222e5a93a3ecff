use Rattle.sre_code.proofs.PricedItems.{held_plus, held_times}
use Rattle.sre_code.proofs.code.prices.cost_before.Goals as goal

pub returns : goal.returns
returns c = λ x b held behind.
    held_plus _ _ _ _ _ held.cost (held_times _ _ _ _ _ held.each behind c.saturating_mul.ensures)
    c.saturating_add.ensures
