use Rattle.sre_machine.proofs.Terms.{◌≡◌, ◌-◌, false, not, min, ap, ◌∙◌, subst, arith, backs, refers, not-true, Tree}
use Rattle.sre_machine.proofs.Terms.{Whole, tree_of, words_of, items_of, Code, whole_of, whole_items, code_of, run_of}
use Rattle.sre_machine.proofs.Terms.{◌^◌, marks_in_regions, markless_regions}
use Rattle.sre_machine.proofs.memo.Memo.begin_keeping.Goals as goal

pub returns-clause-markless : goal.returns-clause-markless
returns-clause-markless g c = λ keeps.
    let code = code_of c.args.req.now in
    let t = tree_of (items_of code) in
    let w = whole_of code in
    let none : marks_in_regions t ≡ false =
    subst (λ (d : Code). (u : Tree) → Whole (words_of d) u → marks_in_regions u ≡ false) c.pattern_codes-code.ensures
    (c.regions_set_marks.ensures.none (not-true c.regions_set_marks.result keeps)) t (whole_items code t w) in
    markless_regions (run_of c.args.req.now).words t w none

pub returns-clause-ends : goal.returns-clause-ends
returns-clause-ends g c = λ t w plain unmarked.
    let code = code_of c.args.req.now in
    let told : c.regions_set_marks.result ≡ marks_in_regions t =
    subst (λ (d : Code). (u : Tree) → Whole (words_of d) u → refers u ≡ false
    → c.regions_set_marks.result ≡ marks_in_regions u) c.pattern_codes-code.ensures c.regions_set_marks.ensures.told t
    (whole_items code t w) plain in
    ap not (told ∙ unmarked)

pub returns-clause-first : goal.returns-clause-first
returns-clause-first g c = λ t w plain.
    let code = code_of c.args.req.now in
    let told : c.looks_back.result ≡ min (backs t) (2 ^ 64 - 1) =
    subst (λ (d : Code). (u : Tree) → Whole (words_of d) u → refers u ≡ false
    → c.looks_back.result ≡ min (backs u) (2 ^ 64 - 1)) c.pattern_codes-code.ensures c.looks_back.ensures t
    (whole_items code t w) plain in
    omega (arith, told, c.start.ensures.value)
