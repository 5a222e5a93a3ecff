use Rattle.sre_laws.proofs.Terms.{Whole, words_of, asked_of, code_of, start_of, end_of}
use Rattle.std.proofs.Common.{◌≡◌, ◌≢◌, ℕ, ◌+◌, ◌-◌, ◌*◌, Bool, List, Option, None, Result, Ok, Err, IfOk, ap, ◌∙◌}
use Rattle.std.proofs.Common.{subst, arith}
use Rattle.sre_engine.specs.Counts.{runs_of}
use Rattle.sre_engine.proofs.CountLaws.{once}
use Rattle.sre_engine.proofs.Spending.{never_used_up}
use Rattle.sre_laws.proofs.laws.searched_within.Goals as goal

-- a limit that is not exceeded is not reported so
answered : {E : Type 0} (left : ℕ) (result : Result (Option Bool) E) → IfOk result (λ told. told ≡ None → left ≡ 0)
    → left ≢ 0 → IfOk result (λ told. told ≢ None)
answered left (Ok told) used never = λ none. never (used none)
answered left (Err e) used never = used

pub returns-clause-told : goal.returns-clause-told
returns-clause-told g c =
    let code = code_of c.args.req in
    let t = c.words-words.ensures.tree in
    let whole : Whole (words_of code) t.0 =
    subst (λ (ws : List ℕ). Whole ws t.0) (c.words-words.ensures.same ∙ ap words_of c.pattern_codes.ensures) t.1 in
    let m = c.requires t.0 whole in
    answered c.search_within.new.steps c.search_within.result c.search_within.ensures.steps.used
    (never_used_up (asked_of c.args.req) code t.0 c.args.steps.now c.search_within.new.steps
    (runs_of c.search_within.new.self) m.0 (2 * (end_of c.args.req + 1 - start_of c.args.req)) whole m.1
    c.search_within.ensures.steps.spent
    (omega (arith, once _ code _ _ _ c.search_within.ensures.counts.inside, c.search_within.ensures.again.few)) m.2)
