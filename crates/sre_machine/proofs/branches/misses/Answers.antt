use Rattle.sre_machine.proofs.Terms.{not-true, run_of, test_there, test_misses}
use Rattle.sre_machine.proofs.branches.misses.Goals as goal

pub takes-requires-clause-stands : goal.takes-requires-clause-stands
takes-requires-clause-stands g c =
    test_there (run_of c.args.req.now) _ _ _ c.requires.opcode c.requires.tests c.requires.stands

pub returns : goal.returns
returns g c = λ missed.
    test_misses (run_of c.args.req.now) c.args.place c.args.character c.args.opcode c.takes.result c.args.cursor
    c.requires.opcode c.requires.tests
    (test_there (run_of c.args.req.now) _ _ _ c.requires.opcode c.requires.tests c.requires.stands)
    c.requires.inside c.requires.character c.takes.ensures (not-true c.takes.result missed)
