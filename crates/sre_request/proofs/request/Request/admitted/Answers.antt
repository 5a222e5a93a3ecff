use Rattle.std.proofs.Common.{rules}
use Rattle.sre_request.proofs.request.Request.admitted.Goals as goal

pub returns-clause-same : goal.returns-clause-same
returns-clause-same g c = search rules
