use Rattle.sre_board.proofs.Terms.{arith}
use Rattle.std.proofs.lemmas.Grind.{common_steps}
use Rattle.sre_board.proofs.Choosing.{back_held}
use Rattle.sre_board.proofs.board.Board.back.Goals as goal

pub returns : goal.returns
returns g c =
    back_held _ c.self.inside.trail c.back.new.self c.self.inside.chains c.cut.new.self c.self.inside.frame
    c.self.inside.choices.items c.pop.new.self.items c.in_ok-saved.saved c.self.view_is c.self.invariant.1
    c.in_ok-saved.ensures.items c.back.ensures c.cut.ensures

pub overflow_sub-self : goal.overflow_sub-self
overflow_sub-self g c = grind (arith, common_steps)

pub back-requires : goal.back-requires
back-requires g c = grind (arith, common_steps)

pub cut-requires : goal.cut-requires
cut-requires g c = grind (arith, common_steps)

pub invariant_of-self-2 : goal.invariant_of-self-2
invariant_of-self-2 g c = grind (arith, common_steps)
