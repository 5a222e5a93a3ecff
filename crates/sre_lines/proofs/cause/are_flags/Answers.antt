-- The letters so far are flags.
use Rattle.sre_lines.proofs.Terms.{rules, All-more, take_all, IsFlag}
use Rattle.sre_lines.proofs.cause.are_flags.Goals as goal

pub loop-letter-preserved : goal.loop-letter-preserved
loop-letter-preserved c = All-more IsFlag _ _ 0 (search rules) c.loop-letter.invariant (search rules)

pub returns-clause-all : goal.returns-clause-all
returns-clause-all c _ =
    rw (take_all c.loop-letter.letter-index c.args.letters.now (search rules)) at c.loop-letter.invariant
