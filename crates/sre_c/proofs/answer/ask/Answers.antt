use Rattle.sre_c.proofs.Terms.{refl, arith, code_of, rules}
use Rattle.sre_c.proofs.Matches.{finds_any}
use Rattle.sre_c.proofs.answer.ask.Goals as goal

pub returns-then-steps-eq-NO_LIMIT-clause-finds : goal.returns-then-steps-eq-NO_LIMIT-clause-finds
returns-then-steps-eq-NO_LIMIT-clause-finds g c =
    rw (c.if-search.false, c.answered.ensures)
    (finds_any (code_of c.args.request) c.pymatch.result c.pymatch.ensures.answer c.pymatch.ensures.refused)

pub returns-else-steps-eq-NO_LIMIT-clause-finds : goal.returns-else-steps-eq-NO_LIMIT-clause-finds
returns-else-steps-eq-NO_LIMIT-clause-finds g c =
    let said = c.match_within.ensures in
    rw c.if-search.false (record {
      answer = said.answer;
      steps = record { code = code_of c.args.request; own = refl; runs = 2; few = omega arith; kept = said.steps };
      unlimited = λ none. absurd (c.if-steps-eq-NO_LIMIT.false none);
      memory = said.refused;
    })

pub returns-then-search-clause-finds : goal.returns-then-search-clause-finds
returns-then-search-clause-finds g c = search rules
