use Rattle.sre_c.proofs.Terms.{code_of}
use Rattle.sre_c.proofs.Matches.{search_kept, finds_any}
use Rattle.sre_c.proofs.asks.KeptAsks.search.Goals as goal

pub search-requires : goal.search-requires
search-requires g c = rw c.in-Ok.ensures.cases c.requires.suits

pub search_within-requires : goal.search_within-requires
search_within-requires g c = rw c.in-Ok.ensures.cases c.requires.suits

pub returns-then-steps-eq-NO_LIMIT-clause-suits : goal.returns-then-steps-eq-NO_LIMIT-clause-suits
returns-then-steps-eq-NO_LIMIT-clause-suits g c = rw c.in-Ok.ensures.cases at c.search.ensures.suits

pub returns-then-steps-eq-NO_LIMIT-clause-finds : goal.returns-then-steps-eq-NO_LIMIT-clause-finds
returns-then-steps-eq-NO_LIMIT-clause-finds g c =
    rw (← c.in-Ok.ensures.cases, c.answered.ensures)
    (finds_any (code_of c.in-Ok.request) c.search.result c.search.ensures.answer c.search.ensures.refused)

pub returns-clause-suits : goal.returns-clause-suits
returns-clause-suits g c = rw c.in-Ok.ensures.cases at c.search_within.ensures.suits

pub returns-clause-finds : goal.returns-clause-finds
returns-clause-finds g c =
    let said = c.search_within.ensures in
    rw (← c.in-Ok.ensures.cases) (record {
      answer = said.answers.answer;
      steps = search_kept said.answers.counts.inside said.answers.again.few said.steps;
      unlimited = λ none. absurd (c.if-steps-eq-NO_LIMIT.false none);
      memory = said.refused;
    })
