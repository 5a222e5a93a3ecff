use Rattle.sre_patterns.proofs.Terms.{◌∙◌, ◌-◌, sym, arith}
use Rattle.sre_patterns.proofs.Tests.{just-on, just-off}
use Rattle.sre_patterns.proofs.classes.taken_and_on.Goals.{then-is_taken+in_ok-push, else-is_taken}
use Rattle.sre_patterns.proofs.classes.taken_and_on.Goals as goal

pub returns : goal.returns
returns c j t s =
    let before = c.in_ok-ranges.ensures j t s in
    let here = sym (c.is_taken.ensures j t s) in
    elim c.if-is_taken.branch [
      | then-is_taken+in_ok-push w ↦
          rw (w.ranges-is, w.in_ok-push.ensures.items)
          (just-on _ _ c.args.from c.args.bound before (omega arith) (c.args.bound - 1) (omega arith)
          (λ n l h. c.requires.settled j t s n l ∙ here ∙ w.if-is_taken.true))
      | else-is_taken w ↦
          rw w.ranges-is
          (just-off _ _ c.args.from c.args.bound before (omega arith)
          (λ n l h. c.requires.settled j t s n l ∙ here ∙ w.if-is_taken.false))
    ]
