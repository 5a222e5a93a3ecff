use Rattle.sre_board.proofs.Undo.{undo_law}
use Rattle.sre_board.proofs.trail.Trail.undo.Goals as goal

pub returns-in-Some : goal.returns-in-Some
returns-in-Some g c =
    undo_law _ c.self.inside.changes.items c.pop.new.self.items c.self.inside.marks c.undo.new.self c.in-Some.change
    c.self.view_is c.in-Some.ensures.items c.undo.ensures
