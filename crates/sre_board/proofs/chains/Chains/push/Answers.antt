use Rattle.sre_board.proofs.Terms.{arith, refl}
use Rattle.sre_board.proofs.ChainLaws.{push_law, based_push, count_law}
use Rattle.sre_board.proofs.chains.Chains.push.Goals as goal

pub invariant_of-self-2 : goal.invariant_of-self-2
invariant_of-self-2 g c =
    based_push c.self.inside.nodes.items c.push.new.list.items _ _ _ c.self.view_is c.in_ok-push.ensures.items
    c.self.invariant c.node_of.ensures.parent c.requires

pub returns : goal.returns
returns g c =
    let count = count_law c.self.inside.nodes.items _ c.self.view_is in
    let grown = count_law c.push.new.list.items _ refl in
    let one = c.in_ok-push.ensures.len in
    record {
      chain =
          push_law c.self.inside.nodes.items c.push.new.list.items _ _ _ _ c.self.view_is c.in_ok-push.ensures.items
          c.node_of.ensures.frame c.node_of.ensures.parent;
      kept = omega (arith, count, grown, one, c.self.inside.nodes.ok.0, c.push.new.list.ok.0);
      id = omega (arith, count, c.len.ensures, one, c.self.inside.nodes.ok.0, c.push.new.list.ok.0);
    }
