use Rattle.sre_board.proofs.Terms.{arith}
use Rattle.sre_board.proofs.ChainLaws.{in_table, node_law}
use Rattle.sre_board.proofs.chains.Chains.node.Goals as goal

pub overflow_sub-id : goal.overflow_sub-id
overflow_sub-id g c = (in_table c.self.inside.nodes.items _ c.args.id c.self.view_is c.requires).0

pub index-requires : goal.index-requires
index-requires g c = omega (
  arith,
  (in_table c.self.inside.nodes.items _ c.args.id c.self.view_is c.requires).1,
  c.self.inside.nodes.ok.0,
)

pub returns : goal.returns
returns g c =
    let law = node_law c.self.inside.nodes.items _ c.args.id c.index.result.now c.self.view_is c.self.invariant
    c.requires c.index.ensures in
    record { chain = law.0; parent = law.1; there = law.2 }
