use Rattle.sre_code.proofs.Terms.{arith, err_from_is_err_and}
use Rattle.sre_code.proofs.ReadBranches.{else_cut, else_short}
use Rattle.sre_code.proofs.code.condition.jump.Goals as goal

pub returns-in_err-end : goal.returns-in_err-end
returns-in_err-end c =
    let p = err_from_is_err_and c.from_residual.result c.from_residual.ensures.1 in
    let cut = c.in_err-end.ensures in
    rw (p.1, p.2) (else_cut c.args.words.now c.args.tail c.args.place c.args.width c.requires.tail cut.0, cut.1)

pub returns-then-end-tail : goal.returns-then-end-tail
returns-then-end-tail c =
    let leads = c.in_ok-end.ensures in (
      else_short c.args.words.now c.args.tail c.args.place c.args.width c.in_ok-end.end c.requires.tail leads.1
          (omega (arith, c.if-end-tail.true)),
      (omega (arith, leads.0), λ e. absurd (cc)),
    )
