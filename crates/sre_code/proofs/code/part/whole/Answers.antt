use Rattle.std.proofs.lemmas.Result.{err_from_is_err_and}
use Rattle.sre_code.proofs.ReadBranches.{whole_cut}
use Rattle.sre_code.proofs.code.part.whole.Goals as goal

pub returns-in_err-opcode : goal.returns-in_err-opcode
returns-in_err-opcode c =
    let p = err_from_is_err_and c.from_residual.result c.from_residual.ensures.1 in
    let cut = c.in_err-opcode.ensures in
    rw (p.1, p.2) (whole_cut _ _ _ _ cut.0 cut.1)
