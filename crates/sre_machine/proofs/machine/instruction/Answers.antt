use Rattle.sre_machine.proofs.Terms.{run_of, failure_step, success_step}
use Rattle.sre_machine.proofs.machine.instruction.Goals as goal

pub returns-in-FAILURE : goal.returns-in-FAILURE
returns-in-FAILURE g c = failure_step (run_of c.args.req.now) _ c.args.cursor _ c.in-FAILURE.ensures.code

pub returns-in-SUCCESS : goal.returns-in-SUCCESS
returns-in-SUCCESS g c = success_step (run_of c.args.req.now) _ c.args.cursor _ c.in-SUCCESS.ensures.code

pub returns-in-ANY : goal.returns-in-ANY
returns-in-ANY g c = c.test.ensures _

pub returns-in-ANY_ALL : goal.returns-in-ANY_ALL
returns-in-ANY_ALL g c = c.test-in-ANY_ALL.ensures _

pub returns-in-CATEGORY : goal.returns-in-CATEGORY
returns-in-CATEGORY g c = c.test-in-CATEGORY.ensures _

pub returns-in-IN : goal.returns-in-IN
returns-in-IN g c = c.test-in-IN.ensures _

pub returns-in-LITERAL : goal.returns-in-LITERAL
returns-in-LITERAL g c = c.test-in-LITERAL.ensures _

pub returns-in-NOT_LITERAL : goal.returns-in-NOT_LITERAL
returns-in-NOT_LITERAL g c = c.test-in-NOT_LITERAL.ensures _

pub returns-in-IN_UNI_IGNORE : goal.returns-in-IN_UNI_IGNORE
returns-in-IN_UNI_IGNORE g c = c.test-in-IN_UNI_IGNORE.ensures _

pub returns-in-LITERAL_UNI_IGNORE : goal.returns-in-LITERAL_UNI_IGNORE
returns-in-LITERAL_UNI_IGNORE g c = c.test-in-LITERAL_UNI_IGNORE.ensures _

pub returns-in-AT : goal.returns-in-AT
returns-in-AT g c = c.position_code.ensures _

pub returns-in-JUMP : goal.returns-in-JUMP
returns-in-JUMP g c = c.jump.ensures _
