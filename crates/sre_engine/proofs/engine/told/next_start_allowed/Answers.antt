use Rattle.sre_engine.proofs.Terms.{refl, asked_of, run_of, items_whole}
use Rattle.sre_engine.proofs.Starting.{none_until_start}
use Rattle.sre_engine.proofs.engine.told.next_start_allowed.Goals as goal

pub returns-clause-none : goal.returns-clause-none
returns-clause-none g c = λ t whole.
    let asked = c.args.req.now in
    none_until_start (run_of asked) (asked_of asked) t c.args.first.now refl c.requires.bars
    (items_whole asked.pattern_codes t whole) _ _ _ (c.in_ok-told.ensures.none t whole) c.next_start.ensures
