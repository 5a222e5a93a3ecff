use Rattle.sre_engine.proofs.Looking.{at_cursor}
use Rattle.sre_engine.proofs.CountLaws.{may_plain}
use Rattle.sre_engine.proofs.engine.candidates.openings.OpeningsCandidates.next.Goals as goal

pub returns-clause-some : goal.returns-clause-some
returns-clause-some g c =
    let plain = c.requires.looks.plain in
    let next = c.in_ok-cursor.ensures.next in
    at_cursor c.args.req.now _ c.in_ok-cursor.cursor c.at.result _ c.at.ensures next.stands next.after next.inside
    c.in_ok-cursor.ensures.none (may_plain _ _ _ plain.prefix plain.first_set) plain.none
