use Rattle.sre_recipes.proofs.Terms.{ap, ◌∙◌, chars, chars-nil}
use Rattle.sre_recipes.proofs.replace.replace_bounded.Goals as goal

pub returns-then-branch-clause-ok : goal.returns-then-branch-clause-ok
returns-then-branch-clause-ok g c = λ t tree.
    let made = rw c.unwrap.ensures at c.from_utf8.ensures.ok in
    let at = c.create_cursor.ensures.0 ∙ c.start.ensures.value in
    ap (λ v. chars v.items) made
    ∙ rw (c.new.ensures.items, chars-nil, at) at c.in_ok-collect.ensures.ok t tree c.if-branch.true
