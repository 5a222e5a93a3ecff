use Rattle.sre_patterns.proofs.Terms.{arith, empty, items_of, uni_of, view_of}
use Rattle.sre_patterns.proofs.Fronts.{start-empty, start-then, start-wider}
use Rattle.sre_patterns.proofs.Nested.{no-jump, item-long, word-next, item-next, more}
use Rattle.sre_patterns.proofs.translate.front.Goals as goal

pub word-first-requires : goal.word-first-requires
word-first-requires c = word-next _ _ _ c.each.invariant.left c.each-test.true

pub item-requires : goal.item-requires
item-requires c =
    item-next _ _ _ _ c.each.invariant.left c.each-test.true c.word-first.ensures.word c.if-first.false

pub each-smaller : goal.each-smaller
each-smaller c =
    let item = item-next _ _ _ _ c.each.invariant.left c.each-test.true c.word-first.ensures.word c.if-first.false in
    omega (arith, c.each-test.true, item-long _ _ _ _ item c.in_ok-hir.ensures)

pub each-preserved : goal.each-preserved
each-preserved c =
    let V = view_of c.args.encoding in
    let table = uni_of c.args.code.now in
    more _ _ _ _ _ _ _ _ _ _ (start-then V table _) (λ b t. start-wider V table _ _ t (c.in_ok-add.ensures b))
    c.each.invariant c.each-test.true
    (no-jump (items_of c.args.code.now) c.each.place _ c.word-first.ensures.word c.if-first.false) c.in_ok-hir.ensures

-- the parts may end anywhere
pub returns : goal.returns
returns c j t r s =
    let V = view_of c.args.encoding in
    let table = uni_of c.args.code.now in
    let left = c.each.invariant.each j t r s in
    start-wider V table _ _ t c.joined.ensures (left.holds empty (start-empty V table left.rest))
