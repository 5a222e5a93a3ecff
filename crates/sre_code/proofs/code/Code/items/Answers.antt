use Rattle.sre_code.proofs.Terms.{List, ℕ, sym, subst, ∥∥₁_map, AreItems, kept_tree}
use Rattle.sre_code.specs.Codes.{items_of}
use Rattle.sre_code.proofs.code.Code.items.Goals as goal

pub returns-clause-same : goal.returns-clause-same
unfolding items_of
returns-clause-same c = c.args.self.now.behind

pub returns-clause-tree : goal.returns-clause-tree
returns-clause-tree c =
    let code = c.args.self.now in
    let k = kept_tree code.words.now (∥∥₁_map code.checked (λ t. (t.0, t.1))) in
    subst (λ (ws : List ℕ). AreItems ws) (sym code.behind) (k.0, k.1.1)
