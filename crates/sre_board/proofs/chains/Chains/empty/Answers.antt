use Rattle.sre_board.proofs.Terms.{refl, arith}
use Rattle.sre_board.proofs.ChainLaws.{first_empty, count_law}
use Rattle.sre_board.proofs.chains.Chains.empty.Goals as goal

pub returns-clause-chain : goal.returns-clause-chain
returns-clause-chain g c = first_empty c.self.inside.nodes.items _ 0 c.self.view_is refl

pub returns-clause-there : goal.returns-clause-there
returns-clause-there g c = omega (arith, count_law c.self.inside.nodes.items _ c.self.view_is)
