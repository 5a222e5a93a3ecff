use Rattle.std.proofs.Common.{rules}
use Rattle.sre_request.proofs.request.Request.new.Goals as goal

pub returns-clause-start : goal.returns-clause-start
returns-clause-start g c = search rules

pub returns-clause-end : goal.returns-clause-end
returns-clause-end g c = search rules
