use Rattle.std.proofs.lemmas.Result.{err_from_is_err_and}
use Rattle.sre_code.proofs.ReadBranches.{there_cut}
use Rattle.sre_code.proofs.code.condition.there.Goals as goal

pub returns-in_err-opcode : goal.returns-in_err-opcode
returns-in_err-opcode c =
    let p = err_from_is_err_and c.from_residual.result c.from_residual.ensures.1 in
    let cut = c.in_err-opcode.ensures in
    rw (p.1, p.2) (there_cut _ _ _ _ _ c.if-place-tail.false cut.0 cut.1)
