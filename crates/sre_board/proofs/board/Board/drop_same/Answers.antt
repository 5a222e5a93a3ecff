use Rattle.sre_board.proofs.Terms.{◌∙◌, refl, arith}
use Rattle.std.proofs.lemmas.Grind.{common_steps}
use Rattle.sre_board.proofs.Choosing.{last_off, dropped_fits, dropped_held}
use Rattle.sre_board.proofs.board.Board.drop_same.Goals as goal

pub invariant_of-self : goal.invariant_of-self
invariant_of-self g c =
    let same = c.goes_on_at.ensures c.if-goes_on_at.true in
    let off = last_off c.self.inside.choices.items c.pop-newest.new.self.items c.pop-newest.result
    c.index-newest.result.now c.len.result _ c.pop-newest.ensures.items c.pop-newest.ensures.value
    c.index-newest.ensures c.len.ensures (grind (arith, common_steps)) in
    let left = dropped_fits _ _ _ _ _ _ off same.0 c.self.invariant.1 in
    (c.self.invariant.0, left.0, c.self.invariant.2 ∙ left.1)

pub returns-then-goes_on_at : goal.returns-then-goes_on_at
returns-then-goes_on_at g c =
    let same = c.goes_on_at.ensures c.if-goes_on_at.true in
    let off = last_off c.self.inside.choices.items c.pop-newest.new.self.items c.pop-newest.result
    c.index-newest.result.now c.len.result _ c.pop-newest.ensures.items c.pop-newest.ensures.value
    c.index-newest.ensures c.len.ensures (grind (arith, common_steps)) in
    dropped_held _ _ c.self.inside.trail c.self.inside.chains c.self.inside.frame c.args.place c.args.cursor
    c.args.marks_matter _ _ _ c.self.view_is refl off same.0 same.1 same.2 (λ h. same.3 h ∙ c.length-changes.ensures)
