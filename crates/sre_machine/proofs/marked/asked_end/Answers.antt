use Rattle.sre_machine.proofs.Terms.{subst, sym, arith, Named}
use Rattle.sre_machine.proofs.Failing.{asked_last}
use Rattle.sre_machine.proofs.marked.asked_end.Goals as goal

pub returns-then-last : goal.returns-then-last
returns-then-last c = λ g asked.
    c.named_end.ensures g (subst (λ ws. Named ws g) (sym c.items.ensures.same) asked.1)

pub returns : goal.returns
returns c = asked_last c.args.code.now c.asked_to-last.result c.asked_to-last.ensures (omega arith)
