use Rattle.std.proofs.Common.{rules}
use Rattle.sre_finder.proofs.span_finder.SpanFinder.reset.Goals as goal

pub returns-clause-end : goal.returns-clause-end
returns-clause-end c = search rules
