use Rattle.sre_code.proofs.Terms.{arith, ◌∙◌}
use Rattle.std.proofs.lemmas.List.{length-set}
use Rattle.sre_code.proofs.Borders.{set_right}
use Rattle.sre_code.proofs.code.borders.border_lengths.Goals as goal

pub front-preserved : goal.front-preserved
front-preserved g c = (
  set_right _ _ _ _ c.front.invariant.0 c.next_border.ensures
      (omega (arith, c.front-test.true, c.front.invariant.1)),
  length-set c.front.lengths.items c.front.n c.next_border.result ∙ c.front.invariant.1,
)
