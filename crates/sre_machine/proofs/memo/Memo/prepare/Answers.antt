use Rattle.std.proofs.Common.{arith}
use Rattle.sre_machine.proofs.memo.Memo.prepare.Goals as goal

pub returns-in-Err-clause-makes : goal.returns-in-Err-clause-makes
returns-in-Err-clause-makes g c = grind arith

pub returns-in_default-clause-makes : goal.returns-in_default-clause-makes
returns-in_default-clause-makes g c = grind arith
