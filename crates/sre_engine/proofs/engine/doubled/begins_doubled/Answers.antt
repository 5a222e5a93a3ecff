use Rattle.sre_engine.proofs.Terms.{◌≡◌, ◌+◌, ◌*◌, subst, rules, Word}
use Rattle.sre_engine.proofs.Doubled.{doubled_words}
use Rattle.sre_engine.proofs.engine.doubled.begins_doubled.Goals as goal

pub returns : goal.returns
returns c =
    let ws = c.args.words.now in
    let g = c.in_ok-group.group in
    let behind = c.in_ok-behind.behind in
    let opening : c.in_ok-opening.opening ≡ g * 2 = search rules in
    doubled_words ws g behind c.in_ok-reference.reference c.in_ok-is_at.ensures
    (subst (λ n. Word ws 1 n) opening c.in_ok-is_at-4.ensures) c.in_ok-behind.ensures.ends c.in_ok-is_at-2.ensures
    (subst (λ n. Word ws (behind + 1) (n + 1)) opening c.in_ok-is_at-5.ensures) c.in_ok-reference.ensures.leads
    c.in_ok-is_at-3.ensures c.in_ok-group.ensures
