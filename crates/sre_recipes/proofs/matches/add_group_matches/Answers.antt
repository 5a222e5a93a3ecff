use Rattle.sre_recipes.proofs.Terms.{arith, zero-add}
use Rattle.sre_recipes.proofs.Written.{counted_step}
use Rattle.sre_recipes.proofs.matches.add_group_matches.Goals as goal

pub group-preserved : goal.group-preserved
group-preserved g c = record {
  few = omega (arith, c.group-test.true);
  so_far = counted_step _ _ _ _ _ _ 0 c.group.count _ c.in_ok-push.ensures.items (zero-add c.group.count)
      c.group_match.ensures c.group.invariant.so_far;
}
