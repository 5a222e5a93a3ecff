use Rattle.std.proofs.Common.{rules}
use Rattle.sre_finder.proofs.span_finder.SpanFinder.make.Goals as goal

pub invariant_of-self-else-is_none : goal.invariant_of-self-else-is_none
invariant_of-self-else-is_none c = search rules
