use Rattle.sre_patterns.proofs.Terms.{◌∙◌, ◌≡◌, ◌+◌, refl, sym, true, false, arith, holds, uni_of}
use Rattle.sre_patterns.proofs.Tests.{just-begun, just-on, just-off, at-one}
use Rattle.sre_patterns.proofs.classes.taken_below.Goals.{then-is_taken+in_ok-push, else-is_taken}
use Rattle.sre_patterns.proofs.classes.taken_below.Goals as goal

pub loop-character-preserved : goal.loop-character-preserved
loop-character-preserved c j t s =
    let i = c.loop-character.character in
    let before = c.loop-character.invariant j t s in
    let taken = c.is_taken.ensures j t s in
    elim c.if-is_taken.branch [
      | then-is_taken+in_ok-push w ↦
          rw (w.ranges-is, w.in_ok-push.ensures.items)
          (just-on _ _ i (i + 1) before (omega arith) i refl (at-one _ i true (sym taken ∙ w.if-is_taken.true)))
      | else-is_taken w ↦
          rw w.ranges-is
          (just-off _ _ i (i + 1) before (omega arith) (at-one _ i false (sym taken ∙ w.if-is_taken.false)))
    ]

pub loop-character-init : goal.loop-character-init
loop-character-init c j t s = rw c.new-ranges.ensures.items (just-begun (holds (uni_of c.args.task.now.code) t))

pub returns : goal.returns
returns c j t s =
    let same : c.loop-character.character ≡ c.args.bound = omega arith in
    rw (← same) (c.loop-character.invariant j t s)
