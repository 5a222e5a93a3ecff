use Rattle.sre_board.proofs.Terms.{arith, IfOk-weaker}
use Rattle.sre_board.proofs.Choosing.{fits-more, set_held}
use Rattle.sre_board.proofs.board.Board.set.Goals as goal

pub set_behind-requires : goal.set_behind-requires
set_behind-requires g c =
    ((rw c.deref.ensures.value at c.needs-chains.ensures.changes) _ _ c.self.invariant.1).0

pub invariant_of-self-2 : goal.invariant_of-self-2
invariant_of-self-2 g c = (
  c.self.invariant.0,
  fits-more _ _ _ _ _ (omega arith) c.set_behind.ensures.kept c.self.invariant.1,
  c.self.invariant.2,
)

pub returns : goal.returns
returns g c =
    let law = rw c.deref.ensures.value at c.needs-chains.ensures.changes in
    IfOk-weaker _ _ _
    (λ x h. set_held _ c.self.inside.trail c.set_behind.new.self c.self.inside.chains c.self.inside.frame
    c.self.inside.choices.items c.args.n c.args.position _ c.self.view_is (law _ _ c.self.invariant.1).1 h)
    c.set_behind.ensures.set
