use Rattle.std.proofs.lemmas.Result.{err_from_is_err_and}
use Rattle.sre_code.proofs.ReadBodies.{region_closed, region_cut}
use Rattle.sre_code.proofs.code.region.end.Goals as goal

pub returns-in_err-opcode : goal.returns-in_err-opcode
returns-in_err-opcode c =
    let p = err_from_is_err_and c.from_residual.result c.from_residual.ensures.1 in
    let cut = c.in_err-opcode.ensures in
    rw (p.1, p.2) (region_cut _ _ _ _ _ _ c.if-place-end.false cut.0 cut.1)

pub returns-in-SUCCESS : goal.returns-in-SUCCESS
returns-in-SUCCESS c =
    region_closed _ _ _ _ c.args.width _ c.if-place-end.false (rw c.in-SUCCESS.is at c.in_ok-opcode.ensures).1
    c.saturating_mul.ensures
