use Rattle.std.proofs.Common.{rules}
use Rattle.sre_finder.proofs.span_finder.SpanFinder.begin_walk.Goals as goal

pub returns-clause-end : goal.returns-clause-end
returns-clause-end c = search rules
