use Rattle.sre_board.proofs.Terms.{arith}
use Rattle.sre_board.proofs.InnermostRegion.{few_regions}
use Rattle.sre_board.proofs.board.Board.add.Goals as goal

pub overflow_add-self : goal.overflow_add-self
overflow_add-self g c =
    let few = few_regions c.self.inside.choices.items c.args.point in
    omega (arith, few, c.regions_of.ensures, c.self.invariant.2, c.self.inside.choices.small, c.self.inside.choices.ok)
