use Rattle.sre_board.proofs.Terms.{arith, nat_tests}
use Rattle.sre_board.proofs.ChainLaws.{first_empty, later_some}
use Rattle.sre_board.proofs.chains.Chains.is_empty.Goals as goal

pub returns : goal.returns
returns g c = record {
  empty = λ first. first_empty c.self.inside.nodes.items _ c.args.id c.self.view_is (grind (arith, nat_tests));
  other = λ later.
      later_some c.self.inside.nodes.items _ c.args.id c.self.view_is c.self.invariant
      (grind (arith, nat_tests)) c.requires;
}
