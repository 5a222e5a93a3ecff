use Rattle.sre_board.proofs.Terms.{arith}
use Rattle.sre_board.proofs.Undo.{length-of}
use Rattle.sre_board.proofs.trail.Trail.length.Goals as goal

pub returns : goal.returns
returns g c = omega (
  arith,
  length-of _ c.self.inside.changes.items c.self.inside.marks c.self.view_is,
  c.self.inside.changes.ok.0,
)
