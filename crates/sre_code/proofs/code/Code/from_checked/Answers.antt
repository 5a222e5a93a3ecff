use Rattle.sre_code.proofs.Terms.{∥∥₁_map, kept_tree}
use Rattle.sre_code.proofs.code.Code.from_checked.Goals as goal
use Rattle.sre_code.proofs.code.Code.from_checked.Goals.{in-Ok, in-Err}

pub invariant_of-result-clause-behind : goal.invariant_of-result-clause-behind
invariant_of-result-clause-behind c =
    let kept = kept_tree c.args.words.now (∥∥₁_map c.requires.checked (λ t. (t.0, t.1))) in
    elim c.match-length.branch [
      | in-Ok w ↦ rw (w.items-is, w.split_at.ensures.back) w.in-Ok.ensures.behind
      | in-Err w ↦ absurd (w.in-Err.ensures.none kept.0 kept.1)
    ]
