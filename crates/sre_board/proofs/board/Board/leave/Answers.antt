use Rattle.sre_board.proofs.Terms.{◌<◌, ◌≤◌, ◌+◌, ◌-◌, arith}
use Rattle.sre_board.proofs.Choosing.{forget_held}
use Rattle.sre_board.proofs.board.Board.leave.Goals as goal

pub returns-then-kept-id : goal.returns-then-kept-id
returns-then-kept-id g c =
    let fits = rw c.deref.ensures.value at c.needs-kept.ensures.chains in
    let below : c.node.result.parent ≤ c.self.inside.frame - 1 = omega (arith, c.node.ensures.parent) in
    let needed : c.needs-kept.result.0 < c.self.inside.frame - 1 + 1 = omega (arith, c.node.ensures.parent) in
    forget_held _ c.self.inside.trail c.self.inside.chains c.cut.new.self c.self.inside.frame c.node.result.parent
    (c.self.inside.frame - 1) c.self.inside.choices.items _ c.self.view_is c.node.ensures.chain below c.cut.ensures
    (fits _ _ _ needed c.self.invariant.1)
