use Rattle.std.proofs.lemmas.Result.{err_from_is_err_and}
use Rattle.sre_code.proofs.Descending.{step_no_item, step_no_close}
use Rattle.sre_code.proofs.code.descent.read_on.Goals as goal

pub returns-in_err-step-2 : goal.returns-in_err-step-2
returns-in_err-step-2 g c =
    let p = err_from_is_err_and c.from_residual-in_err-step-2.result c.from_residual-in_err-step-2.ensures.1 in
    let none = c.in_err-step-2.ensures in
    rw (p.1, p.2)
    (step_no_item _ _ c.args.reached.width c.args.top c.args.parts.now.items _
    (rw c.in_default.is at c.in_ok-step.ensures) none.0 none.1)

pub returns-in_err-step : goal.returns-in_err-step
returns-in_err-step g c =
    let p = err_from_is_err_and c.from_residual.result c.from_residual.ensures.1 in
    rw (p.1, p.2)
    (step_no_close _ _ c.args.reached.width _ c.args.top c.args.parts.now.items _ c.saturating_add-width.ensures
    c.in_err-step.ensures)
