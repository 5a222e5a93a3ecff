use Rattle.sre_recipes.proofs.Terms.{◌∙◌, ap, sym, subst, Asked, string_of}
use Rattle.sre_recipes.proofs.Passing.{stands_here, is_behind}
use Rattle.sre_recipes.proofs.found.FoundTexts.next_text.Goals as goal

pub span_behind-start-requires : goal.span_behind-start-requires
span_behind-start-requires g c =
    let it = c.args.self.now in
    let gives = rw c.in-Some-Ok.field-0-is at c.in-Some-Ok.ensures.steps in
    let same = c.string-text.ensures ∙ ap string_of c.req.ensures ∙ gives.request.string in
    let at = stands_here g.met.S.StrDrive.stands_at g.met.S.StrDrive.stands_once it.walk it.cursor it.here in
    assumption (is_behind _ _ _ _ it.cursor gives same at)

pub invariant_of-self-in-Some-Ok : goal.invariant_of-self-in-Some-Ok
invariant_of-self-in-Some-Ok g c =
    let gives = rw c.in-Some-Ok.field-0-is at c.in-Some-Ok.ensures.steps in
    let text = c.string-text.ensures ∙ ap string_of c.req.ensures in
    let end = c.span_behind-start.ensures.end in
    let start = end.at ∙ sym (ap (λ (a : Asked). a.start) gives.request.asked) in
    record { here = ∣ subst (g.S.StrDrive.stands _ _) start (rw text at end.there) ∣₁ }

pub returns-in-Some-Ok-clause-gives : goal.returns-in-Some-Ok-clause-gives
returns-in-Some-Ok-clause-gives g c =
    let gives = rw c.in-Some-Ok.field-0-is at c.in-Some-Ok.ensures.steps in
    let same = c.string-text.ensures ∙ ap string_of c.req.ensures ∙ gives.request.string in
    let found = c.span_behind-start.ensures in
    record {
      span = c.in-Some-Ok.span;
      gives = gives;
      text_is = rw (found.start.at, found.end.at, same) at c.between.ensures;
    }
