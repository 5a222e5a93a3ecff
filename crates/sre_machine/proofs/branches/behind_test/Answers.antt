use Rattle.sre_machine.proofs.Terms.{run_of, test_there, test_misses, test_continues}
use Rattle.sre_machine.proofs.branches.behind_test.Goals as goal

pub takes-requires-clause-stands : goal.takes-requires-clause-stands
takes-requires-clause-stands g c =
    test_there (run_of c.args.req.now) _ _ _ c.requires.opcode c.requires.tests c.requires.stands

pub test_end-requires-clause-stands : goal.test_end-requires-clause-stands
test_end-requires-clause-stands g c =
    test_there (run_of c.args.req.now) _ _ _ c.requires.opcode c.requires.tests c.requires.stands

pub returns-then-takes : goal.returns-then-takes
returns-then-takes g c =
    test_continues (run_of c.args.req.now) c.args.place c.args.character c.args.opcode c.takes.result c.args.cursor
    c.requires.opcode c.requires.tests
    (test_there (run_of c.args.req.now) _ _ _ c.requires.opcode c.requires.tests c.requires.stands)
    c.requires.read.inside c.requires.read.character c.takes.ensures c.test_end.result c.args.after c.if-takes.true
    c.test_end.ensures c.requires.read.position c.requires.read.stands

pub returns-else-takes : goal.returns-else-takes
returns-else-takes g c =
    test_misses (run_of c.args.req.now) c.args.place c.args.character c.args.opcode c.takes.result c.args.cursor
    c.requires.opcode c.requires.tests
    (test_there (run_of c.args.req.now) _ _ _ c.requires.opcode c.requires.tests c.requires.stands)
    c.requires.read.inside c.requires.read.character c.takes.ensures c.if-takes.false
