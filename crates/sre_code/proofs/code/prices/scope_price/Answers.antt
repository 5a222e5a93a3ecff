use Rattle.sre_code.proofs.Terms.{refl, arith}
use Rattle.sre_code.proofs.PricedItems.{held_same, held_plus}
use Rattle.sre_code.proofs.code.prices.scope_price.Goals as goal

pub returns : goal.returns
returns c = λ x held.
    let two = held_same 2 (omega arith) in
    record {
      steps = held_plus _ 2 _ 2 _ (c.steps_before.ensures x 2 held two) two c.saturating_add.ensures;
      is_open = refl;
      cost = held_same 0 (omega arith);
      each = held_same 0 (omega arith);
      apart = held_plus _ _ _ _ _ (c.cost_before.ensures x 2 held two) held.apart c.saturating_add-2.ensures;
    }
