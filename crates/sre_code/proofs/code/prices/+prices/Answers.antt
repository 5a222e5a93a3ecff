use Rattle.sre_code.proofs.PriceScans.{loop_law, possessive_law, branch_ends, branch_cut, branch_deep, branch_next}
use Rattle.sre_code.proofs.PriceScans.{onto_start, onto_next, scan_stops, scan_ends, Onto, priced_as}
use Rattle.sre_code.proofs.Terms.{IsHeld, BodyPriced, PricedAt, ◌+◌, ◌∙◌, arith, sym, subst}
use Rattle.sre_code.specs.declared.code.prices.Kind.TheVariants as kind
use Rattle.sre_code.proofs.code.prices.+prices.Goals as goal

pub looped-returns-in-Some-clause-told : goal.looped-returns-in-Some-clause-told
looped-returns-in-Some-clause-told t c =
    loop_law _ _ _ c.args.place _ c.word_or_zero.ensures _ _ _ c.word_or_zero-2.ensures c.word_or_zero-3.ensures
    c.loop_slots-slots.ensures _ _ c.in-Some.ensures c.loop_price.ensures

pub possessive-returns-in-Some-clause-told : goal.possessive-returns-in-Some-clause-told
possessive-returns-in-Some-clause-told t c =
    possessive_law _ _ _ c.args.place _ c.word_or_zero.ensures _ _ _ c.word_or_zero-2.ensures c.word_or_zero-3.ensures
    c.loop_slots-slots.ensures _ _ c.in-Some.ensures c.possessive_price.ensures

pub branch-returns-then-skip-eq0-clause-told : goal.branch-returns-then-skip-eq0-clause-told
branch-returns-then-skip-eq0-clause-told t c =
    branch_ends _ c.args.depth _ _ _ _ c.alternative.invariant c.if-skip-eq0.true

pub branch-returns-in_default-clause-told : goal.branch-returns-in_default-clause-told
branch-returns-in_default-clause-told t c =
    branch_deep _ _ _ _ _ _ c.alternative.invariant c.if-skip-eq0.false _ c.saturating_sub-end.ensures
    (subst (λ r. BodyPriced c.args.characters c.args.depth c.args.words.now (c.alternative.place + 1)
    c.saturating_sub-end.result r) c.in_default.is c.body_price.ensures)

pub branch-alternative-preserved : goal.branch-alternative-preserved
branch-alternative-preserved t c =
    branch_next _ _ _ _ _ _ c.alternative.invariant c.if-skip-eq0.false _ c.saturating_sub-end.ensures _ c.joined.result
    _ c.in-Some.ensures
    (λ x y held one. c.joined.ensures x y held (subst (λ p. IsHeld y p) (sym c.straight.ensures) one))
    c.with_alternative-price.ensures

pub branch-returns-clause-told : goal.branch-returns-clause-told
branch-returns-clause-told t c =
    branch_cut _ c.args.depth _ _ _ _ c.alternative.invariant (omega arith)

pub part-returns-in-Run-clause-told : goal.part-returns-in-Run-clause-told
part-returns-in-Run-clause-told t c =
    priced_as _ _ _ _ c.in-Ok.code kind.Run _ c.in-Ok.ensures.1 (sym c.in-Run.is ∙ c.kind_of.ensures)
    c.run.ensures.told

pub part-returns-in-PossessiveRun-clause-told : goal.part-returns-in-PossessiveRun-clause-told
part-returns-in-PossessiveRun-clause-told t c =
    priced_as _ _ _ _ c.in-Ok.code kind.PossessiveRun _ c.in-Ok.ensures.1
    (sym c.in-PossessiveRun.is ∙ c.kind_of.ensures) c.run-in-PossessiveRun.ensures.told

pub prices_of-part-init : goal.prices_of-part-init
prices_of-part-init t c =
    let e = c.args.characters in
    let ws = c.args.words.now in
    subst (λ p. Onto e ws c.args.start c.args.end c.args.start (record { all = p; most = 0; since = 0 }))
    (sym c.straight.ensures) (onto_start e c.args.depth ws c.args.start c.args.end)

pub prices_of-returns-in_default : goal.prices_of-returns-in_default
prices_of-returns-in_default t c =
    scan_stops _ _ _ _ _ _ _ c.part.invariant c.part-test.true
    (subst (λ r. PricedAt c.args.characters c.args.depth c.args.words.now c.part.place r) c.in_default.is
    c.part-in-part.ensures.told)

pub prices_of-part-preserved : goal.prices_of-part-preserved
prices_of-part-preserved t c =
    onto_next _ _ _ _ _ _ _ _ _ c.part.invariant c.part-test.true c.in-Some.ensures.told c.passed-prices.ensures

pub prices_of-returns : goal.prices_of-returns
prices_of-returns t c =
    scan_ends _ _ _ _ _ _ _ c.part.invariant (omega arith)
