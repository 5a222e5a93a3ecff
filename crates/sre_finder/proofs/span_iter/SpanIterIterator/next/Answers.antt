use Rattle.std.proofs.Common.{rules}
use Rattle.sre_finder.proofs.span_iter.SpanIterIterator.next.Goals as goal

pub returns-clause-steps : goal.returns-clause-steps
returns-clause-steps g c = search rules
