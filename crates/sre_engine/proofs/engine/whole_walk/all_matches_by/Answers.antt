use Rattle.sre_engine.proofs.Terms.{◌≡◌, ◌≤◌, ◌++◌, ◌-◌, arith, vec_len, map, length, ap, sym, ◌∙◌, subst, walk}
use Rattle.sre_engine.proofs.Terms.{words_of, hints_of, start_of, code_of, asked_of, match_of, code_tree, length-map}
use Rattle.sre_engine.proofs.Terms.{most_matches, AreInOrder, walk-bound, walk-in_order}
use Rattle.sre_engine.proofs.engine.whole_walk.all_matches_by.Goals as goal

pub returns-in-Ok-clause-ok : goal.returns-in-Ok-clause-ok
returns-in-Ok-clause-ok g c = λ t whole.
    c.in-Ok.ensures.ok t whole
    ∙ ap (λ former. map match_of former ++ walk (asked_of c.args.req) t) c.new-all.ensures.items

pub returns-in-Ok-clause-bound : goal.returns-in-Ok-clause-bound
returns-in-Ok-clause-bound g c =
    let asked = c.args.req in
    let all = c.add_matches-added.new.all in
    let tree = code_tree (words_of (code_of asked)) (hints_of (code_of asked)) (code_of asked).checked in
    let matches = map match_of all.items in
    let same : matches ≡ walk (asked_of asked) tree.0 = returns-in-Ok-clause-ok g c tree.0 tree.1 in
    let count = all.ok.0 ∙ sym (length-map all.items match_of) ∙ ap length same in
    subst (λ n. n ≤ most_matches (asked_of asked)) (sym count) (walk-bound (asked_of asked) tree.0)

pub returns-in-Ok-clause-order : goal.returns-in-Ok-clause-order
returns-in-Ok-clause-order g c =
    let asked = c.args.req in
    let all = c.add_matches-added.new.all in
    let tree = code_tree (words_of (code_of asked)) (hints_of (code_of asked)) (code_of asked).checked in
    let same : map match_of all.items ≡ walk (asked_of asked) tree.0 = returns-in-Ok-clause-ok g c tree.0 tree.1 in
    subst (AreInOrder (start_of asked)) (sym same) (walk-in_order (asked_of asked) tree.0)

pub returns-in-Ok-clause-counts : goal.returns-in-Ok-clause-counts
returns-in-Ok-clause-counts g c =
    rw (c.show_counts.ensures.started, c.show_counts.ensures.compared) c.in-Ok.ensures.counts

pub returns-in-Ok-clause-by_matches : goal.returns-in-Ok-clause-by_matches
returns-in-Ok-clause-by_matches g c =
    let all = c.add_matches-added.new.all in
    let same : vec_len all - vec_len c.new-all.result ≡ vec_len all = omega (arith, c.new-all.ensures.len) in
    rw (c.show_counts.ensures.started, c.show_counts.ensures.compared) (rw same at c.in-Ok.ensures.by_matches)

pub returns-in-Err-clause-counts : goal.returns-in-Err-clause-counts
returns-in-Err-clause-counts g c =
    let s = c.show_counts.ensures in
    rw (c.forget.ensures.started, c.forget.ensures.compared, s.started, s.compared) c.in-Err.ensures.counts
