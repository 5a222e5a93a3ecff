use Rattle.sre_engine.proofs.Terms.{refl, rules}
use Rattle.sre_engine.proofs.CountLaws.{once}
use Rattle.sre_engine.proofs.Spending.{keeps_to, used_up}
use Rattle.sre_engine.proofs.engine.state.State.search_within_by.Goals as goal

pub returns-in-Ok-clause-steps : goal.returns-in-Ok-clause-steps
returns-in-Ok-clause-steps g c =
    keeps_to c.args.req c.args.steps.now _ _ _ _ _ _ _ c.search_from-told.ensures.charged refl refl c.left.ensures
    (once _ _ _ _ _ c.search_from-told.ensures.answers.counts) (λ none. absurd (cc none))

pub returns-clause-steps : goal.returns-clause-steps
returns-clause-steps g c =
    let up = c.in-Err-UsedUp in
    keeps_to c.args.req c.args.steps.now _ _ _ _ _ _ _ c.search_from-told.ensures.charged refl refl c.left.ensures
    (once _ _ _ _ _ c.search_from-told.ensures.answers.counts)
    (λ _. used_up c.args.req _ _ _ _ _ c.search_from-told.ensures.charged up.field-0 up.is
    (rw up.is at up.field-0-is))

pub returns-in-Err-Refused-clause-steps : goal.returns-in-Err-Refused-clause-steps
returns-in-Err-Refused-clause-steps g c =
    keeps_to c.args.req c.args.steps.now _ _ _ _ _ _ _ c.search_from-told.ensures.charged refl refl c.left.ensures
    (once _ _ _ _ _ c.search_from-told.ensures.answers.counts) tt

pub returns-clause-answers : goal.returns-clause-answers
returns-clause-answers g c = search rules
