use Rattle.sre_patterns.proofs.Terms.{◌≡◌, ◌++◌, ◌∷◌, [], List, ℕ, ap, ◌∙◌, sym, map, Re, literal, cat, meaning}
use Rattle.sre_patterns.proofs.Terms.{cat_onto, Vec, Global, meaning-Literal}
use Rattle.sre_patterns.proofs.Onto.{cat-wider, pushed, wider-same, literals-join}
use Rattle.regex_hir.specs.declared.hir.Hir.TheVariants as hir
use Rattle.sre_patterns.proofs.joining.add_literal.Goals as goal

pub returns-in_ok-push-in-Some-Literal : goal.returns-in_ok-push-in-Some-Literal
returns-in_ok-push-in-Some-Literal c b =
    let front = map meaning c.pop.new.self.items in
    let before = c.in-Some-Literal.before in
    let bytes = c.args.bytes.items in
    let grown = c.extend_from_slice.new.self in
    let rest = cat (literal bytes) b in
    let long : grown.items ≡ before.items ++ bytes =
    c.in_ok-extend_from_slice-in-Some-Literal.ensures.items
    ∙ ap (λ (x : Vec ℕ Global). x.items ++ c.as_slice.result.now) c.in-Some-Literal.before-is
    ∙ ap (λ (y : List ℕ). before.items ++ y) c.as_slice.ensures.value in
    let first : cat_onto front (cat (literal before.items) rest) ≡ cat_onto (map meaning c.args.parts.now.items) rest =
    ap (λ (z : Re). cat_onto front (cat z rest))
    (sym (ap meaning c.in-Some-Literal.field-0-is ∙ meaning-Literal before))
    ∙ pushed _ _ _ c.in-Some-Literal.ensures.items rest in
    let last : cat_onto front (cat (literal (before.items ++ bytes)) b)
    ≡ cat_onto (map meaning c.push.new.self.items) b =
    ap (λ (z : Re). cat_onto front (cat z b)) (sym (meaning-Literal grown ∙ ap literal long))
    ∙ pushed _ _ _ c.in_ok-push-in-Some-Literal.ensures.items b in
    rw (← first, ← last) (cat-wider front _ _ (literals-join before.items bytes b))

pub returns-in_ok-push-in-Some-2 : goal.returns-in_ok-push-in-Some-2
returns-in_ok-push-in-Some-2 c b =
    let same = c.in_ok-push-in-Some.ensures.items ∙ sym c.in-Some.ensures.items in
    let grown = c.in_ok-push-in-Some-2.ensures.items ∙ ap (λ hirs. hirs ++ hir.Literal c.args.bytes ∷ []) same in
    rw (← meaning-Literal c.args.bytes) (wider-same _ _ (pushed _ _ _ grown b))
