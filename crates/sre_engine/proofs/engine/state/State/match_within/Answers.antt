use Rattle.sre_engine.proofs.Terms.{refl, arith}
use Rattle.sre_engine.proofs.Spending.{keeps_to, used_up}
use Rattle.sre_engine.proofs.engine.state.State.match_within.Goals as goal

pub returns-in-Ok-clause-steps : goal.returns-in-Ok-clause-steps
returns-in-Ok-clause-steps g c =
    keeps_to c.args.req.now c.args.steps.now _ _ _ _ _ _ _ c.match_from-told.ensures.charged refl refl c.left.ensures
    (omega (arith, c.args.req.now.in_window.0)) (λ none. absurd (cc none))

pub returns-in-Err-UsedUp-clause-steps : goal.returns-in-Err-UsedUp-clause-steps
returns-in-Err-UsedUp-clause-steps g c =
    let up = c.in-Err-UsedUp in
    keeps_to c.args.req.now c.args.steps.now _ _ _ _ _ _ _ c.match_from-told.ensures.charged refl refl c.left.ensures
    (omega (arith, c.args.req.now.in_window.0))
    (λ _. used_up c.args.req.now _ _ _ _ _ c.match_from-told.ensures.charged up.field-0 up.is
    (rw up.is at up.field-0-is))
