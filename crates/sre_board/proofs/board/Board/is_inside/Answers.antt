use Rattle.sre_board.proofs.InnermostRegion.{inside_law}
use Rattle.sre_board.proofs.board.Board.is_inside.Goals as goal

pub returns : goal.returns
returns g c =
    inside_law _ c.self.inside.trail c.self.inside.chains c.self.inside.frame c.self.inside.choices.items
    c.self.inside.regions c.self.view_is c.self.invariant.2
