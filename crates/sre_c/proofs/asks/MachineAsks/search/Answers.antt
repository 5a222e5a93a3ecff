use Rattle.sre_c.proofs.Terms.{code_of}
use Rattle.sre_c.proofs.Matches.{search_kept, finds_any}
use Rattle.sre_c.proofs.asks.MachineAsks.search.Goals as goal

pub returns-then-steps-eq-NO_LIMIT-clause-finds : goal.returns-then-steps-eq-NO_LIMIT-clause-finds
returns-then-steps-eq-NO_LIMIT-clause-finds g c =
    rw (← c.in-Ok.ensures.cases, c.answered.ensures)
    (finds_any (code_of c.in-Ok.request) c.search.result c.search.ensures.answer c.search.ensures.refused)

pub returns-clause-finds : goal.returns-clause-finds
returns-clause-finds g c =
    let said = c.search_within.ensures in
    rw (← c.in-Ok.ensures.cases) (record {
      answer = said.answer;
      steps = search_kept said.counts.inside said.again.few said.steps;
      unlimited = λ none. absurd (c.if-steps-eq-NO_LIMIT.false none);
      memory = said.refused;
    })
