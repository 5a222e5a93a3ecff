use Rattle.sre_code.proofs.Terms.{sym, ◌∙◌, err_from_is_err_and}
use Rattle.sre_code.proofs.ReadBranches.{jump_past, jump_cut, jump_gives}
use Rattle.sre_code.proofs.code.branch.jump.Goals as goal

pub returns-in_err-opcode : goal.returns-in_err-opcode
returns-in_err-opcode c =
    let p = err_from_is_err_and c.from_residual.result c.from_residual.ensures.1 in
    let past = c.in_err-opcode.ensures in
    rw (p.1, p.2)
    (jump_past _ c.args.bounds.end c.args.bounds.tail c.args.least c.args.width c.args.place past.0, past.1)

pub returns-in_err-skip : goal.returns-in_err-skip
returns-in_err-skip c =
    let p = err_from_is_err_and c.from_residual-in_err-skip.result c.from_residual-in_err-skip.ensures.1 in
    let cut = c.in_err-skip.ensures in
    rw (p.1, p.2)
    (jump_cut c.args.words.now c.args.bounds.end c.args.bounds.tail c.args.least c.args.width c.args.place cut.0, cut.1)

pub returns : goal.returns
returns c =
    let jump = rw c.in-JUMP.is at c.in_ok-opcode.ensures in
    jump_gives c.args.words.now c.args.bounds.end c.args.bounds.tail c.args.least c.args.width c.min.result c.args.place
    c.another.result
    c.min.ensures c.requires jump.1 (sym c.if-branch-bounds.false ∙ c.in_ok-skip.ensures.1) c.another.ensures
