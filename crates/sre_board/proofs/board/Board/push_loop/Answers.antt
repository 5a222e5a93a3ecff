use Rattle.sre_board.proofs.Terms.{arith}
use Rattle.sre_board.proofs.Choosing.{enter_held, fits-more, pushed_in}
use Rattle.sre_board.proofs.board.Board.push_loop.Goals as goal

pub invariant_of-self : goal.invariant_of-self
invariant_of-self g c = (
  omega (arith, c.self.invariant.0, c.push.ensures.kept),
  fits-more _ _ _ _ _ c.push.ensures.kept (omega arith) c.self.invariant.1,
  c.self.invariant.2,
)

pub invariant_of-self-2 : goal.invariant_of-self-2
invariant_of-self-2 g c = (
  pushed_in _ _ _ _ c.in_ok-self-inside.ensures.id c.in_ok-self-inside.ensures.chain,
  fits-more _ _ _ _ _ c.push.ensures.kept (omega arith) c.self.invariant.1,
  c.self.invariant.2,
)

pub returns : goal.returns
returns g c =
    enter_held _ c.self.inside.trail c.self.inside.chains c.push.new.self c.self.inside.frame _
    c.self.inside.choices.items c.args.frame c.self.view_is c.self.invariant.1 c.in_ok-self-inside.ensures.chain
    c.in_ok-self-inside.ensures.id
