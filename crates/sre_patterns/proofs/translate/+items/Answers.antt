use Rattle.sre_patterns.proofs.Terms.{◌+◌, ◌-◌, ◌∙◌, ap, sym, subst, [], ◌∷◌, map, refl, arith, inl, inr, true}
use Rattle.sre_patterns.proofs.Terms.{map-append, meaning, meaning-Empty, meaning-Bytes, Opcode, items_of, uni_of}
use Rattle.sre_patterns.proofs.Terms.{view_of, meaning-Alternation}
use Rattle.sre_model.specs.Tree.{Fail}
use Rattle.sre_patterns.proofs.Composed.{covers-atomic, covers-look, covers-reference}
use Rattle.sre_patterns.proofs.Onto.{alt-all}
use Rattle.sre_patterns.proofs.Items.{items-to, loop-read, atomic-read, at-item, marks, loops, atomics, looks}
use Rattle.sre_patterns.proofs.Items.{references, run-kind, look-sign, refers, has-run}
use Rattle.sre_patterns.proofs.Serving.{serves-parts, replaced, serves-loop, covered, serves-covered}
use Rattle.sre_patterns.proofs.SidesSeen.{rises}
use Rattle.sre_patterns.proofs.Nested.{no-jump, item-long, word-next, item-next, more, ended, condition-read, without}
use Rattle.sre_patterns.proofs.Nested.{else-read, with-else, branch-begun, word-there, alternative-read, alternative}
use Rattle.sre_patterns.proofs.Nested.{branches}
use Rattle.sre_patterns.proofs.translate.+items.Goals.{sequence-else-each-test, sequence-then-each-test+then-word}
use Rattle.sre_patterns.proofs.translate.+items.Goals as goal

pub sequence-word-requires : goal.sequence-word-requires
sequence-word-requires t c = word-next _ _ _ c.each.invariant.left c.each-test.true

pub sequence-item-requires : goal.sequence-item-requires
sequence-item-requires t c = (
  omega (arith, c.decreases),
  item-next _ _ _ _ c.each.invariant.left c.each-test.true c.word.ensures.word c.if-word.false,
)

pub sequence-each-smaller : goal.sequence-each-smaller
sequence-each-smaller t c =
    let item = item-next _ _ _ _ c.each.invariant.left c.each-test.true c.word.ensures.word c.if-word.false in
    omega (arith, c.each-test.true, item-long _ _ _ _ item c.in_ok-hir.ensures)

pub sequence-each-preserved : goal.sequence-each-preserved
sequence-each-preserved t c =
    let s = c.args.task.now in
    let V = view_of s.encoding in
    more _ _ _ _ _ _ _ _ _ _ ((serves-parts V (uni_of s.code) s.purpose).joined _)
    (λ b x. replaced V (uni_of s.code) s.purpose _ _ _ (c.in_ok-add.ensures b)) c.each.invariant c.each-test.true
    (no-jump (items_of s.code) c.each.place _ c.word.ensures.word c.if-word.false) c.in_ok-hir.ensures

pub sequence-returns : goal.sequence-returns
sequence-returns t c =
    let s = c.args.task.now in
    let V = view_of s.encoding in
    ended _ _ _ _ _ _ _ (serves-parts V (uni_of s.code) s.purpose).nothing
    (λ x. replaced V (uni_of s.code) s.purpose _ _ _ c.joined.ensures) c.each.invariant
    (elim c.each-test.branch [
      | sequence-else-each-test w ↦ inl w.each-test.false
      | sequence-then-each-test+then-word w ↦ inr (rw w.if-word.true at w.word.ensures.word)
    ])

pub item-run-requires : goal.item-run-requires
item-run-requires t c =
    let k = run-kind c.item_opcode-opcode.result c.in-REPEAT_ONE.is in
    has-run _ _ c.requires _ c.item_opcode-opcode.ensures.word k.0 k.1

pub item-returns-in-FAILURE : goal.item-returns-in-FAILURE
item-returns-in-FAILURE t c =
    let s = c.args.task.now in
    rw (meaning-Bytes, c.empty.ensures)
    (at-item _ _ _ _ _ Fail refl
    (subst (Opcode (items_of s.code) c.args.place) c.in-FAILURE.is c.item_opcode-opcode.ensures.word, refl)
    (serves-parts (view_of s.encoding) (uni_of s.code) s.purpose).failed)

pub item-returns-in-MARK : goal.item-returns-in-MARK
item-returns-in-MARK t c =
    let s = c.args.task.now in
    rw (c.nothing.ensures.hir, c.nothing.ensures.end)
    (marks _ _ _ (subst (Opcode (items_of s.code) c.args.place) c.in-MARK.is c.item_opcode-opcode.ensures.word)
    (serves-parts (view_of s.encoding) (uni_of s.code) s.purpose).marked)

pub item-returns-in_ok-only_covers-in-ASSERT : goal.item-returns-in_ok-only_covers-in-ASSERT
item-returns-in_ok-only_covers-in-ASSERT t c =
    let s = c.args.task.now in
    let k = look-sign c.item_opcode-opcode.result c.in-ASSERT.is in
    rw (c.nothing-in-ASSERT.ensures.hir, c.nothing-in-ASSERT.ensures.end)
    (looks _ _ _ _ _ _ c.item_opcode-opcode.ensures.word k.1 c.skip.ensures.to
    (λ back body. serves-covered _ _ s.purpose _ _ c.in_ok-only_covers-in-ASSERT.ensures
    (covers-look (view_of s.encoding) (uni_of s.code) k.0 back body)))

pub item-returns-in_ok-any_number-in-GROUPREF : goal.item-returns-in_ok-any_number-in-GROUPREF
item-returns-in_ok-any_number-in-GROUPREF t c =
    let s = c.args.task.now in
    rw c.in_ok-any_number-in-GROUPREF.ensures
    (references _ _ _ _ c.item_opcode-opcode.ensures.word (refers _ c.in-GROUPREF.is)
    (λ f g. serves-covered _ _ s.purpose _ _ c.in_ok-only_covers-in-GROUPREF.ensures
    (covers-reference (view_of s.encoding) (uni_of s.code) true _ f g
    (c.in_ok-anything-in-GROUPREF.ensures (uni_of s.code)))))

pub counted-sequence-requires : goal.counted-sequence-requires
counted-sequence-requires t c =
    let r = loop-read _ _ c.requires in
    (omega (arith, c.decreases), items-to _ _ _ c.skip-until.result r.body r.reads (sym c.skip-until.ensures.to))

pub counted-returns : goal.counted-returns
counted-returns t c =
    let s = c.args.task.now in
    let until = c.skip-until.result in
    rw c.in_ok-repeated.ensures
    (loops _ _ _ _ _ c.in_ok-counts.ensures.low c.in_ok-counts.ensures.high c.requires until (until + 1)
    c.skip-until.ensures.to refl
    (λ l k b r w. serves-loop (view_of s.encoding) (uni_of s.code) (rises s.encoding) 1000 _ _ (omega arith) _ _
    s.purpose _ until k b w l c.in_ok-counts.ensures.kept c.in_ok-greedy.ensures.greedy
    (c.iterates.ensures c.if-not-iterates.false) (c.in_ok-body.ensures until b r (omega arith, inl refl)).1))

pub atomic-sequence-requires : goal.atomic-sequence-requires
atomic-sequence-requires t c =
    (omega (arith, c.decreases), rw c.skip-end.ensures.to (atomic-read _ _ c.requires).items)

pub atomic-returns : goal.atomic-returns
atomic-returns t c =
    let s = c.args.task.now in
    let V = view_of s.encoding in
    let only = c.in_ok-only_covers.ensures in
    atomics _ _ _ c.requires _ c.skip-end.ensures.to
    (λ b r. serves-covered V (uni_of s.code) s.purpose _ _ only
    (covers-atomic V (uni_of s.code) _ b
    (covered V (uni_of s.code) s.purpose _ _ only
    (c.in_ok-body.ensures (c.skip-end.result - 1) b r (omega arith, inl refl)).1)))

pub condition-skip-behind-requires : goal.condition-skip-behind-requires
condition-skip-behind-requires t c = (condition-read _ _ c.requires).within

pub condition-sequence-requires : goal.condition-sequence-requires
condition-sequence-requires t c =
    (omega (arith, c.decreases), rw c.skip-behind.ensures.to (condition-read _ _ c.requires).items)

pub condition-returns-then-stop-behind : goal.condition-returns-then-stop-behind
condition-returns-then-stop-behind t c =
    without c.args.task.now _ _ c.requires c.in_ok-only_covers.ensures _ c.skip-behind.ensures.to _ _
    c.in_ok-hir.ensures _ c.if-stop-behind.true (rw meaning-Empty at c.in_ok-either.ensures)

pub condition-skip-end-requires : goal.condition-skip-end-requires
condition-skip-end-requires t c =
    (else-read c.args.task.now _ _ c.requires c.in_ok-only_covers.ensures _ c.skip-behind.ensures.to _ _
    c.in_ok-hir.ensures c.if-stop-behind.false).within

pub condition-sequence-requires-2 : goal.condition-sequence-requires-2
condition-sequence-requires-2 t c =
    let r =
    else-read c.args.task.now _ _ c.requires c.in_ok-only_covers.ensures _ c.skip-behind.ensures.to _ _
    c.in_ok-hir.ensures c.if-stop-behind.false in
    (omega (arith, c.decreases), rw c.skip-end.ensures.to r.items)

pub condition-returns : goal.condition-returns
condition-returns t c =
    with-else c.args.task.now _ _ c.requires c.in_ok-only_covers.ensures _ c.skip-behind.ensures.to _ _
    c.in_ok-hir.ensures _ _ _ _ c.if-stop-behind.false c.skip-end.ensures.to c.in_ok-absent.ensures
    c.in_ok-either-2.ensures

pub branch-alternative-init : goal.branch-alternative-init
branch-alternative-init t c =
    rw c.new-all.ensures.items (branch-begun c.args.task.now (items_of c.args.task.now.code) c.args.place c.requires)

pub branch-word-long-requires : goal.branch-word-long-requires
branch-word-long-requires t c = word-there _ _ c.alternative.invariant

pub branch-overflow_sub-behind : goal.branch-overflow_sub-behind
branch-overflow_sub-behind t c =
    let r = alternative-read _ _ c.alternative.invariant c.word-long.ensures.word c.if-long-eq0.false in
    omega (arith, r.long)

pub branch-sequence-requires : goal.branch-sequence-requires
branch-sequence-requires t c =
    let r = alternative-read _ _ c.alternative.invariant c.word-long.ensures.word c.if-long-eq0.false in
    (omega (arith, c.decreases), r.items)

pub branch-alternative-smaller : goal.branch-alternative-smaller
branch-alternative-smaller t c =
    let r = alternative-read _ _ c.alternative.invariant c.word-long.ensures.word c.if-long-eq0.false in
    omega (arith, r.long, word-there _ _ c.alternative.invariant)

pub branch-alternative-preserved : goal.branch-alternative-preserved
branch-alternative-preserved t c =
    alternative c.args.task.now _ _ _ _ _ _ _ _ c.alternative.invariant c.word-long.ensures.word c.if-long-eq0.false
    c.in_ok-part.ensures
    (ap (map meaning) c.in_ok-push.ensures.items
    ∙ map-append meaning c.alternative.all.items (c.in_ok-part.part.hir ∷ []))

pub branch-returns : goal.branch-returns
branch-returns t c =
    branches c.args.task.now _ _ _ _ _ c.alternative.invariant (rw c.if-long-eq0.true at c.word-long.ensures.word)
    (meaning-Alternation c.alternative.all ∙ sym (alt-all (map meaning c.alternative.all.items)))
