use Rattle.sre_engine.proofs.Looking.{no_match_unplaced}
use Rattle.sre_engine.proofs.engine.told.find_allowed.Goals as goal

pub returns-clause-found : goal.returns-clause-found
returns-clause-found g c = λ yes.
    let some = c.args.prefix.now.confirmed.some in
    let there = c.find.ensures.found yes in
    (there.0, no_match_unplaced _ _ _ _ _ c.requires.is some _ _ _ c.in-Some.ensures.next there.1)

pub returns-clause-none : goal.returns-clause-none
returns-clause-none g c = λ no.
    let some = c.args.prefix.now.confirmed.some in
    no_match_unplaced _ _ _ _ _ c.requires.is some _ _ _ c.in-Some.ensures.next (c.find.ensures.none no)
