use Rattle.sre_automata.proofs.Terms.{◌∙◌, ◌≡◌, IfSome, Option, None, Some, ℕ, length, subst, refl, Accepts, Nfa}
use Rattle.sre_automata.proofs.Terms.{IsLeast, end_from, EndsAt}
use Rattle.sre_automata.proofs.Leftmost.{are_bytes, nothing_found, first_found, find_skips, found_behind, found_here}
use Rattle.regex_dfa.specs.declared.reverse.Start.TheVariants as start
use Rattle.sre_automata.proofs.Automata.first_match.Goals as goal

pub returns-in-Some-clause-finds : goal.returns-in-Some-clause-finds
returns-in-Some-clause-finds c = λ re is.
    let nfa = c.args.self.now in
    let hay = c.args.hay.now in
    let at = c.end_beside-at.result.0 in
    found_here nfa re hay is c.args.start at c.end_beside-at.ensures.none c.in-Some.end
    c.end_beside-at.ensures.inside
    (subst (λ (o : Option ℕ). IfSome o (EndsAt nfa hay at)) c.in-Some.is c.end_beside-at.ensures.end)

pub returns-in-NoMatch-clause-finds : goal.returns-in-NoMatch-clause-finds
returns-in-NoMatch-clause-finds c = λ re is.
    let nfa = c.args.self.now in
    let hay = c.args.hay.now in
    let at = c.end_beside-at.result.0 in
    find_skips nfa re hay is c.args.start at c.end_beside-at.ensures.none
    ∙ nothing_found nfa re hay is (are_bytes hay c.type_inv.hay) at c.end_beside-at.ensures.inside
    (subst (λ (n : Nfa). end_from n hay (length hay) n.unanchored at ≡ None) c.end_beside-at.ensures.same
    c.in-NoMatch.ensures.end)

pub returns-after-gap-lt-BESIDE-clause-finds : goal.returns-after-gap-lt-BESIDE-clause-finds
returns-after-gap-lt-BESIDE-clause-finds c = λ re is.
    let nfa = c.args.self.now in
    let hay = c.args.hay.now in
    let at = c.end_beside-at.result.0 in
    let end = c.in-At.end in
    let from = c.in-At-least_start.from in
    let ended =
    subst (λ (n : Nfa). end_from n hay (length hay) n.unanchored at ≡ Some end) c.end_beside-at.ensures.same
    (c.in-At.ensures.end.1 refl) in
    let least =
    subst (λ (n : Nfa). IsLeast (Accepts n hay end end n.start) at end (start.At from))
    (c.in-At.ensures.same ∙ c.end_beside-at.ensures.same) c.in-At-least_start.ensures.least in
    found_behind nfa re hay is c.args.start at c.end_beside-at.ensures.none from end
    (first_found nfa re hay is (are_bytes hay c.type_inv.hay) at c.end_beside-at.ensures.inside end from ended
    c.in-At.ensures.end.3 least)
