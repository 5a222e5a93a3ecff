use Rattle.sre_code.proofs.Terms.{sym, subst, Tree, Whole, Confirmed}
use Rattle.sre_code.proofs.owned.OwnedCode.code.Goals as goal

pub from_checked-requires-clause-checked : goal.from_checked-requires-clause-checked
from_checked-requires-clause-checked c =
    let kept = c.args.self.now in
    subst (λ words. ∥ ((t : Tree) × Whole words t × Confirmed words kept.uni t kept.hints) ∥₁)
    (sym c.as_slice.ensures.value) kept.checked
