use Rattle.std.proofs.Common.{rules}
use Rattle.sre_finder.proofs.span_finder.SpanFinder.search_by_machine.Goals as goal

pub returns-clause-answers : goal.returns-clause-answers
returns-clause-answers g c = search rules
