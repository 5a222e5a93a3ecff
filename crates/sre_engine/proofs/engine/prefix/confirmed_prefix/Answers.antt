use Rattle.sre_engine.proofs.Terms.{◌≡◌, ◌≤◌, ◌<◌, ◌+◌, ◌^◌, ℕ, List, length, Some, sym, ap, ◌∙◌, subst, arith}
use Rattle.sre_engine.proofs.Terms.{words_of, hints_of, prefix_of, overlaps_of, Code, Hints, IsPrefix, Overlapping}
use Rattle.sre_engine.proofs.Hinting.{prefix_room, prefix_overlaps, prefix_is}
use Rattle.sre_engine.proofs.engine.prefix.confirmed_prefix.Goals as goal
use Rattle.sre_engine.proofs.engine.prefix.confirmed_prefix.Goals.{After-words-words}
use Rattle.sre_engine.proofs.engine.prefix.confirmed_prefix.Given.{Over}

-- the prefix that the code's hints give
hint : (g : Over) (c : After-words-words g)
    → (hints_of c.pattern_codes-code.result).prefix ≡ Some (c.in-Some.length, c.in-Some.literals)
hint g c = sym (ap (λ (x : Hints). x.prefix) c.hints-hints.ensures.same) ∙ c.in-Some.is

room : (g : Over) (c : After-words-words g) → 7 + c.in-Some.length + c.in-Some.length ≤ length c.words-words.result.now
room g c =
    subst (λ ws. 7 + c.in-Some.length + c.in-Some.length ≤ length ws) (sym c.words-words.ensures.same)
    (prefix_room c.pattern_codes-code.result c.in-Some.length c.in-Some.literals (hint g c))

pub slice_bounds-prefix-end : goal.slice_bounds-prefix-end
slice_bounds-prefix-end g c = omega (arith, room g (goal.at.slice_bounds-prefix-end g c).After-words-words)

pub invariant_of-result : goal.invariant_of-result
invariant_of-result g c =
    let e = hint g (goal.at.invariant_of-result g c).After-words-words in
    record {
      confirmed =
          subst (λ (ws : List ℕ). Overlapping (prefix_of ws c.in-Some.length) (overlaps_of ws c.in-Some.length))
          (sym c.words-words.ensures.same) (prefix_overlaps c.pattern_codes-code.result _ _ e);
      among = c.sought.ensures;
    }

pub returns-clause-some : goal.returns-clause-some
returns-clause-some g c =
    let code = c.pattern_codes-code.result in
    let e = hint g (goal.at.returns-clause-some g c).After-words-words in
    let l = c.in-Some.length in
    let lit = c.hints-hints.result.literal in
    let few : length (words_of code) < 2 ^ 64 =
    subst (λ (ws : List ℕ). length ws < 2 ^ 64) c.words-words.ensures.same c.words-words.type_inv.0 in
    subst (λ (x : Code). IsPrefix x (prefix_of c.words-words.result.now l) c.in-Some.literals lit)
    c.pattern_codes-code.ensures
    (subst (λ (ws : List ℕ). IsPrefix code (prefix_of ws l) c.in-Some.literals lit) (sym c.words-words.ensures.same)
    (prefix_is code l c.in-Some.literals e lit (ap (λ (x : Hints). x.literal) c.hints-hints.ensures.same) few))

pub slice_bounds-result-end : goal.slice_bounds-result-end
slice_bounds-result-end g c = omega (arith, room g (goal.at.slice_bounds-result-end g c).After-words-words)

pub sought-requires : goal.sought-requires
sought-requires g c =
    let e = hint g (goal.at.sought-requires g c).After-words-words in
    subst (λ (ws : List ℕ). 0 < length (prefix_of ws c.in-Some.length)) (sym c.words-words.ensures.same)
    (prefix_overlaps c.pattern_codes-code.result _ _ e).some
