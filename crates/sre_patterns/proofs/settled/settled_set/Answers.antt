use Rattle.sre_patterns.proofs.Tests.{settled-ended}
use Rattle.sre_patterns.proofs.settled.settled_set.Goals as goal

pub returns-in-FAILURE : goal.returns-in-FAILURE
returns-in-FAILURE c =
    settled-ended c.args.words.now c.args.start c.item.place c.item.from c.item.invariant c.in-FAILURE.ensures
