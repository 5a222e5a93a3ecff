use Rattle.sre_machine.proofs.Terms.{rules}
use Rattle.sre_machine.proofs.Analyses.{next_admits, skip_admits, run_admits, loop_admits, possessive_admits}
use Rattle.sre_machine.proofs.Analyses.{test_admits}
use Rattle.sre_machine.proofs.admitting.instruction.Goals as goal

pub returns-in-MARK : goal.returns-in-MARK
returns-in-MARK c =
    next_admits c.args.words.now c.args.place c.in-Ok.opcode _ (search rules) c.in-MARK.is c.instruction_at.ensures

pub returns-in-JUMP : goal.returns-in-JUMP
returns-in-JUMP c =
    skip_admits c.args.words.now c.args.place c.in-Ok.opcode _ (search rules) c.leads.result c.leads.ensures
    c.in-JUMP.is c.instruction_at-in-JUMP.ensures

pub returns-in-REPEAT_ONE : goal.returns-in-REPEAT_ONE
returns-in-REPEAT_ONE c =
    run_admits c.args.words.now c.args.place c.in-Ok.opcode _ (search rules) c.in-REPEAT_ONE.is c.run.ensures

pub returns-then-ends_bodies : goal.returns-then-ends_bodies
returns-then-ends_bodies c =
    loop_admits c.args.words.now c.args.place c.in-Ok.opcode _ (search rules) c.leads-in-REPEAT.result
    c.leads-in-REPEAT.ensures c.in-REPEAT.is (c.ends_bodies.ensures c.if-ends_bodies.true) c.repeat.ensures

pub returns-in-POSSESSIVE_REPEAT : goal.returns-in-POSSESSIVE_REPEAT
returns-in-POSSESSIVE_REPEAT c =
    possessive_admits c.args.words.now c.args.place c.in-Ok.opcode _ (search rules) c.in-POSSESSIVE_REPEAT.is
    c.repeat-in-POSSESSIVE_REPEAT.ensures

pub returns-in-ANY : goal.returns-in-ANY
returns-in-ANY c =
    test_admits c.args.words.now c.args.place c.in-Ok.opcode _ (search rules) c.in-ANY.is c.test.ensures
