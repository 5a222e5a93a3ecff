use Rattle.std.proofs.lemmas.Result.{err_from_is_err_and}
use Rattle.sre_code.proofs.Descending.{descent_stops}
use Rattle.sre_code.proofs.code.descent.descend.Goals as goal

pub returns-in_err-reached-2 : goal.returns-in_err-reached-2
returns-in_err-reached-2 g c =
    let p = err_from_is_err_and c.from_residual-in_err-reached-2.result c.from_residual-in_err-reached-2.ensures.1 in
    rw (p.1, p.2)
    (descent_stops _ c.args.start _ c.part.reached.width c.in-Some.top c.part.parts.items c.pop.new.self.items _
    c.part.invariant c.in-Some.ensures.items c.in_err-reached-2.ensures)
