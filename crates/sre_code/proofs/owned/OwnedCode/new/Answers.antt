use Rattle.sre_code.proofs.Terms.{List, ℕ, sym, subst, Tree, Whole, Confirmed}
use Rattle.sre_code.proofs.owned.OwnedCode.new.Goals as goal

pub invariant_of-result : goal.invariant_of-result
invariant_of-result c =
    let copy = c.in-Ok.copy in
    record {
      checked =
          subst (λ (ws : List ℕ). ∥ ((t : Tree) × Whole ws t × Confirmed ws c.args.uni t copy.hints) ∥₁)
          (sym c.in-Ok.ensures.words) c.in-Ok.ensures.checked;
      scanned = copy.scanned;
      asked = copy.asked;
      counted = copy.counted;
    }
