use Rattle.sre_recipes.proofs.Terms.{◌∙◌}
use Rattle.sre_recipes.proofs.compute.replace_with_bounded.Goals as goal

pub returns-then-branch-clause-ok : goal.returns-then-branch-clause-ok
returns-then-branch-clause-ok g c = λ t tree.
    let told = c.in_ok-collect.ensures.ok t tree c.if-branch.true in
    let same = c.from_output.ensures ∙ rw (c.new.ensures.items, g.met.S.Text.none_characters) at told.1 in
    let at = (g.met.S.StrDrive.stands_at _ _ _ c.create_cursor.ensures).0 ∙ c.start.ensures.value in
    rw same (rw at at told.2)
