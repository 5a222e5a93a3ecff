use Rattle.sre_recipes.proofs.Terms.{◌≡◌, ◌≤◌, ℕ, arith, ap, sym, ◌∙◌, StringCursor}
use Rattle.sre_recipes.proofs.Cuts.{nothing_between}
use Rattle.sre_recipes.proofs.slice.whole_text.Goals as goal

pub returns-else-start-position : goal.returns-else-start-position
returns-else-start-position g c =
    let state = c.args.state.now in
    let text = g.S.StrDrive.text c.args.text in
    let from : ℕ = c.cursor-else-start-position.result.position in
    let to : ℕ = c.cursor-else-start-position-2.result.position in
    let here = ap (λ (x : StringCursor). x.position) c.cursor-else-start-position.ensures in
    let there = ap (λ (x : StringCursor). x.position) c.cursor-else-start-position-2.ensures in
    let at : c.position.result ≡ state.cursor.position =
    c.position.ensures ∙ ap (λ (x : StringCursor). x.position) c.cursor.ensures in
    let behind : state.cursor.position ≤ state.start = omega (arith, at, c.start.ensures, c.if-start-position.false) in
    let same : to ≤ from = omega (arith, here, there) in
    c.between.ensures
    ∙ nothing_between text from to same
    ∙ sym (nothing_between text state.start state.cursor.position behind)
