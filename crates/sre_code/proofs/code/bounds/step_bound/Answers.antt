use Rattle.sre_code.proofs.Terms.{sym, subst, Reads}
use Rattle.sre_code.proofs.CodeBounds.{bound_told}
use Rattle.sre_code.proofs.code.bounds.step_bound.Goals as goal

pub returns : goal.returns
returns c = λ t w counted.
    let ws = c.args.items.now in
    let told = c.in_ok-counted.ensures.told t w in
    let reads = subst (λ n. Reads ws 0 n t) (sym c.saturating_sub-end.ensures) w.0 in
    bound_told ws c.args.characters c.args.longest c.in_ok-counted.counted c.in_ok-prices.prices c.number.result t told
    (c.in_ok-prices.ensures.each t reads told.0.no_reference) c.number.ensures counted
