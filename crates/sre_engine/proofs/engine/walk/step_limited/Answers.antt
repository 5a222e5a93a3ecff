use Rattle.sre_engine.proofs.Terms.{refl, rules}
use Rattle.sre_engine.proofs.CountLaws.{once}
use Rattle.sre_engine.proofs.Spending.{keeps_to, used_up}
use Rattle.sre_engine.proofs.engine.walk.step_limited.Goals as goal

pub returns-in-Ok-clause-steps : goal.returns-in-Ok-clause-steps
returns-in-Ok-clause-steps g c =
    keeps_to c.args.req.now c.args.steps.now _ _ _ _ _ _ _ c.step_within-told.ensures.charged refl refl
    c.left.ensures (once _ _ _ _ _ c.step_within-told.ensures.stepped.counts) (λ none. absurd (cc none))

pub returns-in-Err-UsedUp-clause-steps : goal.returns-in-Err-UsedUp-clause-steps
returns-in-Err-UsedUp-clause-steps g c =
    let up = c.in-Err-UsedUp in
    keeps_to c.args.req.now c.args.steps.now _ _ _ _ _ _ _ c.step_within-told.ensures.charged refl refl
    c.left.ensures (once _ _ _ _ _ c.step_within-told.ensures.stepped.counts) (λ _.
    used_up c.args.req.now _ _ _ _ _ c.step_within-told.ensures.charged up.field-0 up.is
    (rw up.is at up.field-0-is))

pub returns-in-Err-UsedUp-clause-stepped : goal.returns-in-Err-UsedUp-clause-stepped
returns-in-Err-UsedUp-clause-stepped g c = search rules
