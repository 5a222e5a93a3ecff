use Rattle.sre_board.proofs.Terms.{◌<◌, length, arith, IfOk-weaker}
use Rattle.sre_board.proofs.Undo.{length-of, length-past, set_odd}
use Rattle.sre_board.proofs.trail.Trail.set_behind.Goals as goal

pub returns-then-needed-len : goal.returns-then-needed-len
returns-then-needed-len g c =
    let few = length-of _ c.self.inside.changes.items c.self.inside.marks c.self.view_is in
    let within : c.args.needed < length c.args.self.now.past =
    omega (arith, few, c.if-needed-len.true, c.len.ensures, c.self.inside.changes.ok.0) in
    record {
      set = IfOk-weaker _ _ _
          (λ x h. set_odd _ c.self.inside.changes.items c.self.inside.marks c.set.new.self c.args.n c.args.position
          c.args.needed c.self.view_is (c.stands_at.ensures c.if-stands_at.true) within h) c.set.ensures;
      kept = omega (arith, few, length-past c.self.inside.changes.items c.set.new.self);
    }
