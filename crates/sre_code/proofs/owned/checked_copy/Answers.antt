use Rattle.std.proofs.lemmas.Grind.{merely}
use Rattle.sre_code.proofs.Terms.{sym}
use Rattle.sre_code.proofs.owned.checked_copy.Goals as goal

pub returns-clause-checked : goal.returns-clause-checked
returns-clause-checked c =
    let code = c.in_ok-code.ensures in
    let held = c.hints.ensures.confirmed code.tree.0 (rw (sym code.words) at code.tree.1) in
    merely (code.tree.0, code.tree.1, rw (code.words, code.uni) at held)
