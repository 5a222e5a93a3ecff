use Rattle.sre_engine.proofs.Terms.{◌≡◌, ℕ, Option, Some, sym, ap, ◌∙◌, subst, hints_of, Code, Hints, code_of, asked_of}
use Rattle.sre_engine.proofs.Terms.{IsLast}
use Rattle.sre_engine.proofs.Hinting.{last_none, last_if}
use Rattle.sre_engine.proofs.engine.widths.last_start.Goals as goal

width_hint : (code asked : Code) (h : Hints) (w : Option ℕ) → h ≡ hints_of code → code ≡ asked → h.width ≡ w
    → (hints_of asked).width ≡ w
width_hint code asked h w same is e =
    subst (λ (x : Code). (hints_of x).width ≡ w) is (sym (ap (λ (x : Hints). x.width) same) ∙ e)

pub returns-in-None : goal.returns-in-None
returns-in-None g c =
    let asked = c.args.req.now in
    subst (λ n. IsLast (asked_of asked) (code_of asked) (Some n)) (sym c.end.ensures.value)
    (last_none (asked_of asked) (code_of asked)
    (width_hint _ _ _ _ c.hints.ensures.same c.pattern_codes.ensures c.in-None.is))

pub returns-in-Some : goal.returns-in-Some
returns-in-Some g c =
    let asked = c.args.req.now in
    last_if (asked_of asked) (code_of asked) _ _ _ c.end-in-Some.ensures.value
    (width_hint _ _ _ _ c.hints.ensures.same c.pattern_codes.ensures c.in-Some.is) c.checked_sub.ensures
