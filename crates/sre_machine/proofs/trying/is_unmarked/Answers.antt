use Rattle.sre_machine.proofs.Terms.{ℕ, ◌*◌, ◌≤◌, List, Option, length, ap, ◌∙◌, subst, Marks, run_of, leb-true}
use Rattle.sre_machine.proofs.Terms.{few_unmarked}
use Rattle.sre_machine.proofs.Failing.{plain_words, referring_words, asked_few}
use Rattle.sre_machine.proofs.trying.is_unmarked.Goals as goal

pub returns-then-not-refers-clause-unmarked : goal.returns-then-not-refers-clause-unmarked
returns-then-not-refers-clause-unmarked g c = λ _ k marked.
    absurd (plain_words c.args.req.now c.pattern_codes-code.result c.refers.result c.pattern_codes-code.ensures
    c.refers.ensures c.if-not-refers.true marked.asked.0.0)

pub returns-clause-unmarked : goal.returns-clause-unmarked
returns-clause-unmarked g c = λ told.
    let least : ℕ = c.asked_from.result in
    few_unmarked (run_of c.args.req.now).words c.args.board.now.marks least
    (asked_few c.args.req.now c.pattern_codes-code.result least c.pattern_codes-code.ensures c.asked_from.ensures)
    (subst (λ (raw : List (Option ℕ)). length raw ≤ 2 * least)
    (c.raw.ensures ∙ ap (λ (m : Marks). m.raw) c.marks.ensures) (leb-true (length c.raw.result.now) (2 * least) told))

pub returns-clause-marked : goal.returns-clause-marked
returns-clause-marked g c = λ _.
    referring_words c.args.req.now c.pattern_codes-code.result c.refers.result c.pattern_codes-code.ensures
    c.refers.ensures c.if-not-refers.false
