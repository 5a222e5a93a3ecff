use Rattle.sre_emit.proofs.Terms.{arith, IfOk-weaker, IfErr-weaker}
use Rattle.sre_emit.proofs.HandedOut.{code_emitted, code_caused}
use Rattle.sre_emit.proofs.emission.emit_in.Goals as goal

pub returns-clause-emitted : goal.returns-clause-emitted
returns-clause-emitted g c =
    IfOk-weaker c.finish.result _ _ (λ v h. code_emitted c.args.part.now c.args.with_block _ _ _
    c.in_ok-least.ensures.checked.1 (omega (arith, c.in_ok-least.ensures.checked.0)) c.new-writer.ensures.words
    c.new-writer.ensures.failure c.put_code.ensures c.put_front.ensures v.items h.0 h.1) c.finish.ensures.words

pub returns-clause-cause : goal.returns-clause-cause
returns-clause-cause g c =
    IfErr-weaker c.finish.result _ _ (code_caused c.args.part.now c.args.with_block _ _ _
    c.in_ok-least.ensures.checked.1 (omega (arith, c.in_ok-least.ensures.checked.0)) c.new-writer.ensures.words
    c.new-writer.ensures.failure c.put_code.ensures c.put_front.ensures) c.finish.ensures.failure
