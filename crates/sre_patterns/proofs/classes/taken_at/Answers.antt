use Rattle.sre_patterns.proofs.Terms.{subst, Opcode, items_of, uni_of}
use Rattle.sre_patterns.proofs.Tests.{plain-literal, just-literal, just-no_literal}
use Rattle.sre_patterns.proofs.classes.taken_at.Goals.{then-value-bound+in_ok-push, else-value-bound}
use Rattle.sre_patterns.proofs.classes.taken_at.Goals as goal

pub returns : goal.returns
returns c j t s =
    let table = uni_of c.args.task.now.code in
    let code = subst (Opcode (items_of c.args.task.now.code) c.args.place) c.in-LITERAL.is c.requires.code in
    let is = plain-literal _ _ _ _ _ code c.operand-value.ensures.word s in
    rw is
    (elim c.if-value-bound.branch [
      | then-value-bound+in_ok-push w ↦
          rw (w.ranges-is, w.in_ok-push.ensures.items, c.new-ranges.ensures.items)
          (just-literal _ _ table w.if-value-bound.true)
      | else-value-bound w ↦
          rw (w.ranges-is, c.new-ranges.ensures.items) (just-no_literal _ _ table w.if-value-bound.false)
    ])
