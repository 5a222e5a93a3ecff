use Rattle.sre_automata.proofs.Terms.{meaning}
use Rattle.sre_automata.proofs.Needles.{none_found}
use Rattle.sre_automata.proofs.seeker.Seeker.first_match.Goals as goal

pub returns-then-has_none_left-clause-finds : goal.returns-then-has_none_left-clause-finds
returns-then-has_none_left-clause-finds c =
    none_found c.args.hay.now (meaning c.args.self.now) c.args.start
    (c.has_none_left.ensures.none c.if-has_none_left.true)
