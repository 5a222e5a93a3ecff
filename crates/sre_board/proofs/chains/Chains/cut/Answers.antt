use Rattle.sre_board.proofs.ChainLaws.{cut_law}
use Rattle.sre_board.proofs.chains.Chains.cut.Goals as goal

pub returns : goal.returns
returns g c =
    cut_law c.self.inside.nodes.items c.truncate.new.self.items _ c.args.keep c.self.view_is
    c.truncate.ensures.items c.requires
