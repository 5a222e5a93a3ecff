use Rattle.sre_machine.proofs.Terms.{contains, Alternatives, run_of}
use Rattle.sre_machine.proofs.Analyses.{told_there, nothing_before}
use Rattle.sre_machine.proofs.branches.bars_alternatives.Goals as goal

pub returns-in-Some : goal.returns-in-Some
returns-in-Some g c = λ outside.
    let r = run_of c.args.req.now in
    let found = c.in-Some.ensures.lookup in
    let told =
    told_there r.words c.admitted.result.now c.args.place c.in-Some.admitted.now _ c.admitted.ensures.admitted
    found.0 found.1 in
    nothing_before r (Alternatives c.args.place) (contains c.in-Some.admitted.now.alternatives) c.args.character
    c.args.cursor.position told.alternatives (c.is_outside.ensures outside) c.requires
