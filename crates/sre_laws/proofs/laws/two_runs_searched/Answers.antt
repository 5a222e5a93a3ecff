use Rattle.sre_laws.proofs.Terms.{Whole, behind_block, words_of, asked_of, code_of, start_of, end_of, IsRemembered}
use Rattle.sre_laws.proofs.Terms.{words_of_two_runs}
use Rattle.std.proofs.Common.{◌≡◌, ℕ, ◌≤◌, List, length, sym, ap, ◌∙◌, subst, arith}
use Rattle.sre_engine.specs.Codes.{items_of}
use Rattle.sre_laws.proofs.TwoRuns.{two_runs, its_words, two_runs_remembered, steps_suffice}
use Rattle.sre_laws.proofs.laws.two_runs_searched.Goals as goal

pub returns : goal.returns
unfolding items_of
returns g c =
    let req = c.new.result in
    let same : words_of (code_of req) ≡ words_of_two_runs =
    ap words_of c.new.ensures.pattern_codes ∙ c.requires.words in
    let places : 22 ≡ length (items_of (code_of req)) = sym (ap (λ (ws : List ℕ). length (behind_block ws)) same) in
    let order : start_of req ≤ end_of req = omega (arith, c.new.ensures.start) in
    let short : end_of req ≤ 1000 = omega (arith, c.new.ensures.end, c.requires.short) in
    c.search_within.ensures.steps.enough
    (record {
      tree = two_runs;
      whole = subst (λ (ws : List ℕ). Whole ws two_runs) (sym same) its_words;
      remembered =
          subst (λ n. IsRemembered n two_runs (asked_of req)) places (two_runs_remembered (asked_of req) order short);
      more = steps_suffice (asked_of req) order short;
    })
