use Rattle.sre_code.proofs.Terms.{List, ℕ, subst, Tree, WholeItems, IsSummary}
use Rattle.sre_code.specs.Codes.{items_of}
use Rattle.sre_code.proofs.code.Code.summary.Goals as goal

pub returns : goal.returns
unfolding items_of
returns c t w =
    let P : List ℕ → Type 0 = λ ws. (t : Tree) → WholeItems ws t → IsSummary t c.summarize.result in
    subst P c.items.ensures.same c.summarize.ensures t w.1
