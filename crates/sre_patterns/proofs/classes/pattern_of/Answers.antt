use Rattle.sre_patterns.proofs.Terms.{subst, Opcode, items_of, uni_of}
use Rattle.sre_patterns.proofs.Tests.{plain-literal}
use Rattle.sre_patterns.proofs.classes.pattern_of.Goals as goal

pub returns-in-Some : goal.returns-in-Some
returns-in-Some c j t r =
    let s = c.args.task.now in
    let code = subst (Opcode (items_of s.code) c.args.place) c.in-LITERAL.is c.test_opcode-opcode.ensures in
    let is = plain-literal _ _ _ _ _ code c.operand-value.ensures.word r in
    rw (c.in-Cover.is, is) (c.in_ok-hir.ensures _ c.in-Some.is (uni_of s.code))
