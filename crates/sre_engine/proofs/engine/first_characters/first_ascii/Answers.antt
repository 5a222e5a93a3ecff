use Rattle.sre_engine.proofs.Terms.{arith}
use Rattle.sre_engine.proofs.Starting.{test_lacks}
use Rattle.sre_engine.proofs.engine.first_characters.first_ascii.Goals as goal

pub returns-in-Test-clause-lacks : goal.returns-in-Test-clause-lacks
returns-in-Test-clause-lacks c =
    test_lacks c.args.words.now c.args.first c.in-Test.place c.ascii_taken.result (omega arith) c.in-Test.is
    c.ascii_taken.ensures.taken
