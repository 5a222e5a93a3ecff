use Rattle.sre_engine.proofs.Terms.{∥∥₁_elim, arith, string_of, start_of, rules}
use Rattle.std.proofs.lemmas.Grind.{merely}
use Rattle.sre_engine.proofs.engine.search_iter.SearchIter.next_by.Goals as goal

pub step_admitted-requires-clause-stands : goal.step_admitted-requires-clause-stands
step_admitted-requires-clause-stands g c =
    let it = c.args.self.now in
    ∥∥₁_elim it.here (g.met.S.StrDrive.stands_once (string_of it.req) it.cursor (start_of it.req)) (λ at. at)

pub invariant_of-self : goal.invariant_of-self
invariant_of-self g c = grind (arith, merely)

pub invariant_of-self-in-Ok-false : goal.invariant_of-self-in-Ok-false
invariant_of-self-in-Ok-false g c = grind (arith, merely)

pub invariant_of-self-in-Err : goal.invariant_of-self-in-Err
invariant_of-self-in-Err g c = grind (arith, merely)

pub returns-in-Ok-true-clause-gives : goal.returns-in-Ok-true-clause-gives
returns-in-Ok-true-clause-gives g c = search rules
