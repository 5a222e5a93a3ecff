use Rattle.std.proofs.Common.{ap₂}
use Rattle.std.specs.Coded.{×_prop, le_prop}
use Rattle.sre_request.specs.Admitting.{one_all_admitted}
use Rattle.sre_request.proofs.request.Request.with_admitted.Goals as goal

pub returns : goal.returns
returns g c = λ all.
    ap₂ (λ w l. record c.args.self.now { admitted = c.args.admitted; in_window = w; all_admitted = l })
    (×_prop (×_prop le_prop le_prop) le_prop _ _) (one_all_admitted _ _)
