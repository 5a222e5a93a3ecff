use Rattle.sre_board.proofs.Terms.{arith, IfOk-weaker}
use Rattle.sre_board.proofs.Undo.{length-of, length-past, set_law}
use Rattle.sre_board.proofs.trail.Trail.set.Goals as goal

pub returns : goal.returns
returns g c = record {
  set = IfOk-weaker _ _ _
      (λ x h. set_law _ c.self.inside.changes.items c.push.new.list.items c.self.inside.marks c.set.new.self
      c.change.result c.args.n c.args.position c.self.view_is c.in_ok-push.ensures.items c.change.ensures h)
      c.set.ensures;
  kept = omega (
    arith,
    length-of _ c.self.inside.changes.items c.self.inside.marks c.self.view_is,
    length-past c.push.new.list.items c.set.new.self,
    c.in_ok-push.ensures.len,
    c.self.inside.changes.ok.0,
    c.push.new.list.ok.0,
  );
}
