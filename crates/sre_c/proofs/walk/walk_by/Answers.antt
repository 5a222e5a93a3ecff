use Rattle.sre_c.proofs.Terms.{◌∙◌, ap, words_of}
use Rattle.sre_c.proofs.Walks.{walks_of}
use Rattle.sre_c.proofs.walk.walk_by.Goals as goal

pub returns-clause-walks : goal.returns-clause-walks
returns-clause-walks g c =
    let told = c.write.ensures.rows in
    walks_of c.request-request.result told.0 c.args.code.now (g.S.StrDrive.text c.args.text) c.args.asked.now
    c.args.width c.write.new.walked c.write.new.rows
    (ap words_of c.request-request.ensures.code ∙ c.in-Ok.ensures.words)
    (rw c.in-Ok.ensures.uni at c.request-request.ensures.asked) c.in-Ok.ensures.tree c.write.result
    (rw (ap (λ w. w.steps) c.requires.begun) at told.1)
