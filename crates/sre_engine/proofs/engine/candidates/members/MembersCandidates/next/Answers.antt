use Rattle.sre_engine.proofs.Terms.{arith}
use Rattle.sre_engine.proofs.Looking.{at_cursor}
use Rattle.sre_engine.proofs.CountLaws.{may_member}
use Rattle.sre_engine.proofs.engine.candidates.members.MembersCandidates.next.Goals as goal

pub returns-clause-some : goal.returns-clause-some
returns-clause-some g c =
    let looks = c.requires.looks in
    let next = c.in_ok-cursor.ensures.next in
    at_cursor c.args.req.now _ c.in_ok-cursor.cursor c.at.result _ c.at.ensures c.in_ok-cursor.ensures.stands next.from
    (omega (arith, next.inside)) c.in_ok-cursor.ensures.none (may_member _ _ _ looks.set next.member) looks.none
