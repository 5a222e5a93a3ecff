use Rattle.sre_engine.proofs.Looking.{unplaced_passed}
use Rattle.sre_engine.proofs.engine.candidates.places.PlacesCandidates.pass.Goals as goal

pub returns-clause-passed : goal.returns-clause-passed
returns-clause-passed g c = λ _.
    let is_at = c.requires.is_at in
    let scans = is_at.scans in
    unplaced_passed _ _ _ _ _ scans.is c.args.self.now.prefix.now.confirmed.some c.args._candidate.start _
    c.requires.failed (rw (← is_at.start) at c.go_on-self.ensures.passed)
