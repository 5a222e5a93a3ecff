use Rattle.sre_recipes.proofs.Terms.{[], ap, ◌∙◌, arith, unwrap_or}
use Rattle.sre_recipes.proofs.Cuts.{nothing_between}
use Rattle.sre_recipes.proofs.replace.piece_text.Goals as goal

pub returns-in-None : goal.returns-in-None
returns-in-None g c =
    let end = c.args.span.now.end.position in
    let none = nothing_between (g.S.StrDrive.text c.args.text) end end (omega arith) in
    rw c.in-Group.is (c.between-in-None.ensures ∙ none ∙ ap (λ o. unwrap_or o []) c.in-None.ensures)
