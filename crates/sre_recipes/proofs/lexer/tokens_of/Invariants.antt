use Rattle.sre_recipes.proofs.Terms.{◌≡◌, ◌++◌, map, Tree, Whole, words_of, string_of, start_of, end_of, code_of}
use Rattle.sre_recipes.proofs.Terms.{asked_of, request_of, left_of, most_items, token_matches, reached, lexeme_of}
use Rattle.sre_recipes.proofs.Terms.{lexeme_shown, adjoining, StandsAt}
use Rattle.sre_recipes.proofs.Steps.{Kept}
use Rattle.sre_recipes.proofs.lexer.tokens_of.Given as goal

abbrev pub invariant-walk : goal.invariant-walk
invariant-walk g l =
    let asked = l.req in
    let start = start_of (request_of l.walk) in
    record {
      kept : Kept l.walk (string_of asked) (words_of (code_of asked)) (end_of asked);
      stands : StandsAt (g.S.StrDrive.stands (string_of asked)) l.all.end start;
      left : (t : Tree) → Whole (words_of (code_of asked)) t
          → map (lexeme_shown g.S.StrDrive.text) l.all.tokens.items
          ++ map (lexeme_of (g.S.StrDrive.text (string_of asked))) (adjoining start (left_of l.walk t))
          ≡ map (lexeme_of (g.S.StrDrive.text (string_of asked))) (token_matches (asked_of asked) t);
      end : (t : Tree) → Whole (words_of (code_of asked)) t
          → reached start (adjoining start (left_of l.walk t))
          ≡ reached (start_of asked) (token_matches (asked_of asked) t);
    }

abbrev pub decreases-walk : goal.decreases-walk
decreases-walk g l = most_items l.walk
