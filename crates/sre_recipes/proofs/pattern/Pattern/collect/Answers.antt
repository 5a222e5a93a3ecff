use Rattle.sre_recipes.proofs.Terms.{◌≡◌, ◌∙◌, ℕ, List, length, IfOk, ap, subst, Whole, Match, words_of, string_of}
use Rattle.sre_recipes.proofs.Terms.{end_of, code_of, asked_of, walk, Asked, rules, uni_of}
use Rattle.sre_finder.specs.SpanIters.{request_of, left_of}
use Rattle.sre_recipes.proofs.Passing.{all_left, whole_asks}
use Rattle.sre_recipes.proofs.pattern.Pattern.collect.Goals as goal

pub returns-clause-ok : goal.returns-clause-ok
returns-clause-ok g c = λ t whole.
    let r = c.whole-request.ensures in
    let it = c.walk-walk.result in
    let req = c.walk-walk.ensures.req in
    let own : c.args.self.now.words ≡ words_of (code_of (request_of it)) = search rules in
    let table : uni_of (code_of c.whole-request.result) ≡ c.args.self.now.table = search rules in
    let asks =
    whole_asks (asked_of c.whole-request.result) (g.S.StrDrive.text c.args.text) c.args.self.now.table
    (ap g.S.StrDrive.text r.string) table r.start r.end r.match_all r.must_advance r.empty_rule in
    let left = all_left it t c.walk-walk.ensures.open ∙ ap (λ (a : Asked). walk a t) (ap asked_of req ∙ asks) in
    let text = g.S.StrDrive.text c.args.text in
    let told = c.collect_spans-collected.ensures.ok t (subst (λ ws. Whole ws t) own whole) in
    let Told = λ (s : g.row.S.Denot) (stop : ℕ) (ms : List Match). IfOk c.collect_spans-collected.result
    (λ _. g.C.Collects.gathers s stop c.args.all.now ms c.collect_spans-collected.new.all) in
    subst (Told c.args.text (length text)) left
    (subst (λ (s : g.row.S.Denot). Told s (length text) (left_of it t)) (ap string_of req ∙ r.string)
    (subst (λ (stop : ℕ). Told (string_of (request_of it)) stop (left_of it t)) (ap end_of req ∙ r.end) told))
