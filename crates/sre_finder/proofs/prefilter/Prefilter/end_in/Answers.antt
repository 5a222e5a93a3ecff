use Rattle.std.proofs.Common.{rules}
use Rattle.sre_finder.proofs.prefilter.Prefilter.end_in.Goals as goal

pub returns-then-position-end-clause-end : goal.returns-then-position-end-clause-end
returns-then-position-end-clause-end g c = search rules
