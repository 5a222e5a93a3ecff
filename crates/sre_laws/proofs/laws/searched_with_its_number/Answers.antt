use Rattle.sre_laws.proofs.Terms.{Whole, words_of, items_of, IsWindow, IsStepBound, asked_of, code_of}
use Rattle.std.proofs.Common.{◌≡◌, ℕ, Bool, List, length, Option, Some, None, Result, Ok, IfOk, refl, subst, arith}
use Rattle.sre_laws.proofs.laws.searched_with_its_number.Goals as goal

-- what holds of a call whose step limit is exceeded holds of one that was
limit_exceeded : {E : Type 0} (R : Type 0) (told : Result (Option Bool) E) → IfOk told (λ t. t ≡ None → R)
    → Some told ≡ Some (Ok None) → R
limit_exceeded R told said is =
    let same : told ≡ Ok None = cc in
    subst (λ r. IfOk r (λ t. t ≡ None → R)) same said refl

pub returns : goal.returns
returns g c =
    let req = c.args.req in
    let code = code_of req in
    let same : c.pattern_codes-code.result ≡ code = c.pattern_codes-code.ensures in
    let t = c.words-words.ensures.tree in
    let whole : Whole (words_of c.pattern_codes-code.result) t.0 =
    subst (λ (ws : List ℕ). Whole ws t.0) c.words-words.ensures.same t.1 in
    let number : IsStepBound (length (items_of code)) t.0 c.args.characters c.in_ok-steps.steps =
    subst (λ k. IsStepBound (length (items_of k)) t.0 c.args.characters c.in_ok-steps.steps) same
    (c.in_ok-steps.ensures.enough t.0 whole) in
    let window : IsWindow c.args.characters (asked_of req) =
    record { order = omega (arith, c.start-start.ensures.value, c.start-start.ensures.in_window); within = c.requires }
    in
    limit_exceeded _ c.search_within.result
    (c.search_within.ensures.steps.enough
    (record {
      tree = t.0;
      whole = subst (λ k. Whole (words_of k) t.0) same whole;
      remembered = number.remembered (asked_of req) window;
      more = number.more (asked_of req) window;
    }))
