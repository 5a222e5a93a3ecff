use Rattle.sre_code.proofs.Terms.{◌≡◌, false, List, ℕ, subst, Tree, WholeItems, marks_in_regions, refers}
use Rattle.sre_code.specs.Codes.{items_of}
use Rattle.sre_code.proofs.code.Code.regions_set_marks.Goals as goal

pub returns-clause-none : goal.returns-clause-none
unfolding items_of
returns-clause-none c none t w =
    let P : List ℕ → Type 0 = λ ws. (t : Tree) → WholeItems ws t → marks_in_regions t ≡ false in
    subst P c.items.ensures.same (c.regions_set_marks.ensures.none none) t w.1

pub returns-clause-told : goal.returns-clause-told
unfolding items_of
returns-clause-told c t w plain =
    let P : List ℕ → Type 0 =
    λ ws. (t : Tree) → WholeItems ws t → refers t ≡ false → c.regions_set_marks.result ≡ marks_in_regions t in
    subst P c.items.ensures.same c.regions_set_marks.ensures.told t w.1 plain
