use Rattle.sre_engine.proofs.Terms.{arith}
use Rattle.sre_engine.proofs.Looking.{at_cursor}
use Rattle.sre_engine.proofs.CountLaws.{may_plain}
use Rattle.sre_engine.proofs.engine.candidates.only_start.OnlyStartCandidates.next.Goals as goal

pub returns-clause-some : goal.returns-clause-some
returns-clause-some g c =
    let looks = c.requires.looks in
    at_cursor c.args._req.now _ c.args.self.now.start c.at.result _ c.at.ensures looks.stands (omega arith)
    c.requires.inside (λ t whole s from to. absurd (omega (arith, from, to)))
    (may_plain _ _ _ looks.plain.prefix looks.plain.first_set) looks.plain.none
