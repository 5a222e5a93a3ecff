use Rattle.sre_board.proofs.Terms.{arith}
use Rattle.sre_board.proofs.ChainLaws.{count_law}
use Rattle.sre_board.proofs.chains.Chains.count.Goals as goal

pub returns : goal.returns
returns g c =
    omega (arith, count_law c.self.inside.nodes.items _ c.self.view_is, c.len.ensures, c.self.inside.nodes.ok.0)
