use Rattle.sre_machine.proofs.Terms.{◌≡◌, ap, sym, ◌∙◌, subst, List, ℕ, items_of, AreWords, run_of, AreIdle, Covers}
use Rattle.sre_turns.proofs.memoization.SameComes.{none_idle}
use Rattle.sre_machine.proofs.Analyses.{covers_all}
use Rattle.sre_machine.proofs.Recalling.{recalls_none}
use Rattle.sre_machine.proofs.memo.Memo.begin.Goals as goal

pub returns-clause-remembers : goal.returns-clause-remembers
returns-clause-remembers g c =
    let r = run_of c.args.req.now in
    let same : c.items.result.now ≡ r.words = c.items.ensures.same ∙ ap items_of c.pattern_codes.ensures in
    let blank = rw (← c.self.view_is) at c.forget_used.ensures in
    let m = c.self.inside in
    recalls_none r m.failures m.marked m.ends m.keeps_ends blank.none blank.unmarked
    (subst (λ end. Covers r.words end) (sym blank.end)
    (covers_all r.words (subst (λ (ws : List ℕ). AreWords ws) same c.know_words.ensures)))
    (subst (λ list. AreIdle r.words list) (sym blank.idle) (none_idle r.words))
    blank.ends (λ never. absurd (cc (never, blank.closed)))
