use Rattle.sre_code.proofs.Checked.{code_confirmed}
use Rattle.sre_code.proofs.code.Code.hints.Goals as goal

pub returns-clause-confirmed : goal.returns-clause-confirmed
returns-clause-confirmed c = code_confirmed c.args.self.now
