use Rattle.sre_patterns.proofs.Terms.{arith, nat_tests, meaning, IsMinLen-le}
use Rattle.sre_patterns.proofs.repeats.iterates.Goals as goal

pub returns-in-InOrder : goal.returns-in-InOrder
returns-in-InOrder c some =
    rw c.in-InOrder.is
    (IsMinLen-le (meaning c.args.hir.now) 1 c.min_len.result (grind (arith, nat_tests)) c.min_len.ensures.bound)
