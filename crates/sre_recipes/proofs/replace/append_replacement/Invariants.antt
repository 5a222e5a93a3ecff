use Rattle.sre_recipes.proofs.Terms.{◌≡◌, ◌++◌, take, match_shown}
use Rattle.sre_recipes.specs.Templates.{written}
use Rattle.sre_recipes.proofs.replace.append_replacement.Given as goal

abbrev pub invariant-piece : goal.invariant-piece
invariant-piece g l = record {
  is_text : g.S.Text.IsText l.output.items;
  so_far : g.S.Text.characters l.output.items
      ≡ g.S.Text.characters l.fn.output.items
      ++ written g.S.StrDrive.text (g.S.StrDrive.text l.text) (take l.piece-index l.template) (match_shown l.state);
}
