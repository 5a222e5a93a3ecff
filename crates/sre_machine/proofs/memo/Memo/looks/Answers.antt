use Rattle.sre_machine.proofs.Terms.{ap, run_of, MemoValue}
use Rattle.sre_machine.proofs.Recalling.{recalls_begun}
use Rattle.sre_machine.proofs.memo.Memo.looks.Goals as goal

pub returns-then-self-window-clause-recalls : goal.returns-then-self-window-clause-recalls
returns-then-self-window-clause-recalls g c = λ recalls.
    let before = rw (← c.self.view_is) at recalls in
    let m = c.self.inside in
    let same = c.begin_keeping.ensures.same in
    recalls_begun (run_of c.args.req.now) c.begin_keeping.new.self m.failures m.marked m.ends m.keeps_ends
    (ap (λ (x : MemoValue). x.kept) same) (ap (λ (x : MemoValue). x.marked) same)
    (ap (λ (x : MemoValue). x.ends) same) c.begin_keeping.ensures.markless before
