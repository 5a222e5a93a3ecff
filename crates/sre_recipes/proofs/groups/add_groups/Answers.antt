use Rattle.sre_recipes.proofs.Terms.{arith, refl}
use Rattle.sre_recipes.proofs.Written.{counted_step}
use Rattle.sre_recipes.proofs.groups.add_groups.Goals as goal

pub group-preserved : goal.group-preserved
group-preserved g c = record {
  few = omega (arith, c.group-test.true);
  so_far = counted_step _ _ _ _ _ _ c.args.first c.group.count _ c.in_ok-push.ensures.items refl
      c.group_text.ensures c.group.invariant.so_far;
}
