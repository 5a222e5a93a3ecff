use Rattle.sre_machine.proofs.Terms.{ap, subst, sym, run_of, AreIdle, MemoValue, Covers}
use Rattle.sre_machine.proofs.Recalling.{recalls_none, recalls_begun}
use Rattle.sre_machine.proofs.memo.Memo.open.Goals as goal

pub returns-clause-recalls : goal.returns-clause-recalls
returns-clause-recalls g c = λ recalls.
    let r = run_of c.args.req.now in
    let before = rw (← c.self.view_is) at recalls in
    let same = c.begin_keeping.ensures.same in
    let k = c.forget.new.self in
    let m = c.forget-2.new.self in
    let e = c.forget-3.new.self in
    let h = c.self.inside.keeps_ends in
    recalls_begun r c.begin_keeping.new.self k m e h (ap (λ (x : MemoValue). x.kept) same)
    (ap (λ (x : MemoValue). x.marked) same) (ap (λ (x : MemoValue). x.ends) same) c.begin_keeping.ensures.markless
    (recalls_none r k m e h c.forget.ensures.none c.forget-2.ensures.none
    (subst (λ end. Covers r.words end) (sym c.forget-2.ensures.end) before.covers)
    (subst (λ list. AreIdle r.words list) (sym c.forget-2.ensures.idle) before.idle) c.forget-3.ensures.none
    before.markless)
