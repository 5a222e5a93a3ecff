use Rattle.sre_engine.proofs.Terms.{refl, code_of, asked_of}
use Rattle.sre_engine.proofs.FirstSets.{none_until_member}
use Rattle.sre_engine.proofs.engine.told.next_member_allowed.Goals as goal

pub returns-clause-none : goal.returns-clause-none
returns-clause-none g c = λ t whole.
    let asked = c.args.req.now in
    none_until_member (code_of asked) c.requires.set (asked_of asked) t refl whole _ _ _
    (c.in_ok-beyond.ensures.none t whole) c.next_member.ensures.next
