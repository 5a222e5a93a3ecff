use Rattle.sre_code.proofs.Terms.{arith, common_steps}
use Rattle.sre_code.proofs.Scanning.{word_scanned, scanned_all}
use Rattle.sre_code.proofs.code.summary.may_set_marks.Goals as goal

pub word-preserved : goal.word-preserved
word-preserved c =
    word_scanned _ _ _ c.max-farthest.result c.word.invariant
    (grind (arith, common_steps)) (λ e r. let far = c.closing_at.ensures e r in grind (arith, common_steps))
    (c.is_mark_before.ensures c.if-is_mark_before.false)

pub returns : goal.returns
returns c none = scanned_all c.args.items.now c.word.place _ (omega (arith, c.word-test.false)) c.word.invariant
