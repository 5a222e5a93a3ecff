use Rattle.std.proofs.Common.{rules}
use Rattle.sre_finder.proofs.span_finder.SpanFinder.search.Goals as goal

pub returns-in-Ok-Some-clause-answer : goal.returns-in-Ok-Some-clause-answer
returns-in-Ok-Some-clause-answer g c = search rules

pub returns-in-Ok-None-clause-no : goal.returns-in-Ok-None-clause-no
returns-in-Ok-None-clause-no g c = search rules
