use Rattle.sre_engine.proofs.Terms.{arith, IsTrue, ◌∙◌}
use Rattle.sre_engine.proofs.Steps.{fall}
use Rattle.sre_engine.proofs.engine.prefix.pass.Goals as goal

pub front-preserved : goal.front-preserved
front-preserved g c = record {
  inside =
      fall _ _ _ _ _ _ _ _ c.front.invariant.inside c.args.prefix.now.overlaps.now _ c.args.prefix.now.confirmed
      (omega arith)
      (λ e. let h : IsTrue c.is_same.result = c.is_same.ensures.same.1 (c.front.invariant.character ∙ e) in cc)
      (omega (arith, c.is_same.ensures.counted));
  character = c.front.invariant.character;
}
