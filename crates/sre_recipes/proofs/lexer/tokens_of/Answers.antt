use Rattle.sre_recipes.proofs.Terms.{◌≡◌, ◌++◌, map, ap, sym, ◌∙◌, subst, Tree, string_of, start_of, asked_of}
use Rattle.sre_recipes.proofs.Terms.{match_shown, request_of, shown_of, left_of, token_matches, reached, lexeme_of}
use Rattle.sre_recipes.proofs.Terms.{lexeme_shown, adjoining, unless_empty}
use Rattle.sre_recipes.proofs.Adjoining.{walk_tokens}
use Rattle.sre_recipes.proofs.Steps.{all_left, walk_step, kept_first, kept_on, next_start, stands_there}
use Rattle.sre_recipes.proofs.Written.{tokens_step, none_left, reached_on}
use Rattle.sre_recipes.proofs.lexer.tokens_of.Goals as goal

pub walk-preserved : goal.walk-preserved
walk-preserved g c =
    let told = (rw c.in-Some.is at c.in_ok-span.ensures.gives).0 in
    let gives = told.gives in
    let kept = c.walk.invariant.kept in
    let shown = map (lexeme_shown g.S.StrDrive.text) in
    let lexeme = lexeme_of (g.S.StrDrive.text (string_of c.args.req.now)) in
    let found = match_shown (shown_of c.next_adjoining.new.walk) in
    let added : shown c.add_token.new.all.tokens.items
    ≡ shown c.walk.all.tokens.items ++ map lexeme (unless_empty found) =
    cc (c.in_ok-add_token.ensures.ok, c.string-text.ensures, c.state.ensures) in
    let stands = rw (c.string-text.ensures, c.state.ensures) at c.in_ok-add_token.ensures.end in
    record {
      kept = kept_on _ _ _ _ _ gives kept;
      stands = rw (next_start gives) stands;
      left = λ t tree. tokens_step _ _ _ _ _ _ _ _ _ (walk_step _ _ _ t gives kept.words tree) told.here
          (next_start gives) added (c.walk.invariant.left t tree);
      end = λ t tree. reached_on _ _ _ _ _ _ (walk_step _ _ _ t gives kept.words tree) told.here (next_start gives)
          (c.walk.invariant.end t tree);
    }

pub returns-clause-ok : goal.returns-clause-ok
returns-clause-ok g c = λ t tree.
    let none = (rw c.in_default.is at c.in_ok-span.ensures.gives).none t (rw c.walk.invariant.kept.words tree) in
    none_left _ _ _ _ none (c.walk.invariant.left t tree)

pub returns-clause-end : goal.returns-clause-end
returns-clause-end g c = λ t tree.
    let none = (rw c.in_default.is at c.in_ok-span.ensures.gives).none t (rw c.walk.invariant.kept.words tree) in
    let start = start_of (request_of c.walk.walk) in
    let end = ap (reached start) (sym none) ∙ c.walk.invariant.end t tree in
    subst (g.S.StrDrive.stands (string_of c.args.req.now) c.walk.all.end)
    (c.walk.invariant.stands.at ∙ end) c.walk.invariant.stands.there

pub walk-init : goal.walk-init
walk-init g c =
    let same = c.new-walk.ensures.req ∙ c.copied.ensures in
    let asked = c.args.req.now in
    let it = c.new-walk.result in
    let start = start_of (request_of it) in
    let at = stands_there g.S.StrDrive g.met.S.StrDrive.stands_at _ _ _ c.create_cursor.ensures in
    let tokens : (t : Tree) → adjoining start (left_of it t) ≡ token_matches (asked_of asked) t =
    λ t. ap (adjoining start) (all_left it t c.new-walk.ensures.open)
    ∙ rw same (walk_tokens (asked_of asked) t asked.in_window.0.0) in
    record {
      kept = kept_first it asked same;
      stands = rw (c.string-text.ensures, c.start.ensures.value ∙ sym (ap start_of same)) at at;
      left = λ t tree. rw (c.new.ensures.items, tokens t);
      end = λ t tree. rw (tokens t, ap start_of same);
    }
