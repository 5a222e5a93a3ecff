use Rattle.sre_c.proofs.Codes.{items_in}
use Rattle.sre_c.proofs.step_bound.bound_by.Goals as goal

pub returns-in-Some : goal.returns-in-Some
returns-in-Some c =
    let own = c.in-Ok.ensures.words in
    record { bounds = (c.in-Ok.ensures.tree, rw (items_in c.in-Ok.code own, own) at c.in-Some.ensures.enough) }

pub returns-in-None : goal.returns-in-None
returns-in-None c =
    let own = c.in-Ok.ensures.words in
    let none = c.step_bound.ensures.none c.in-None.is in
    record { bounds = (c.in-Ok.ensures.tree, rw (items_in c.in-Ok.code own, own) at none, c.requires.none) }
