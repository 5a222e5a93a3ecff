use Rattle.sre_code.proofs.Terms.{arith, refl, sym, subst, common_steps, ToldAt}
use Rattle.sre_code.proofs.Scanning.{scanned_start, scanned_next, scan_stops, scan_ends, nothing_left, loop_stops}
use Rattle.sre_code.proofs.Scanning.{loop_passed}
use Rattle.sre_code.proofs.code.slots.+plain.Goals as goal

pub looped-returns-then-left-eq0-clause-told : goal.looped-returns-then-left-eq0-clause-told
looped-returns-then-left-eq0-clause-told t c =
    loop_stops _ c.args.place _ _ _ c.word_or_zero-2.ensures c.word_or_zero-3.ensures c.loop_slots-slots.ensures _ _ 0
    c.word_or_zero.ensures (sym c.if-left-eq0.true) (nothing_left _ _ _)

pub looped-returns-in-Some-clause-told : goal.looped-returns-in-Some-clause-told
looped-returns-in-Some-clause-told t c =
    loop_passed _ c.args.place _ _ _ c.word_or_zero-2.ensures c.word_or_zero-3.ensures c.loop_slots-slots.ensures _ _ _
    c.word_or_zero.ensures refl _ c.in-Some.ensures.told

pub looped-returns-in-None-clause-told : goal.looped-returns-in-None-clause-told
looped-returns-in-None-clause-told t c =
    loop_stops _ c.args.place _ _ _ c.word_or_zero-2.ensures c.word_or_zero-3.ensures c.loop_slots-slots.ensures _ _ _
    c.word_or_zero.ensures refl c.in-None.ensures.told

pub scan-part-init : goal.scan-part-init
scan-part-init t c = record {
  some = c.requires.some;
  onto = scanned_start c.args.most c.args.words.now c.args.start c.args.end c.requires.some;
  few = c.requires.some;
}

pub scan-returns-in_default-clause-told : goal.scan-returns-in_default-clause-told
scan-returns-in_default-clause-told t c =
    scan_stops _ _ _ _ c.part.invariant.some _ _ c.part.invariant.onto c.part-test.true
    (subst (λ r. ToldAt c.args.most c.args.words.now c.part.place r) c.in_default.is c.part-in-part.ensures.told)

pub scan-part-preserved : goal.scan-part-preserved
scan-part-preserved t c =
    let before = c.part.invariant in
    record {
      some = before.some;
      onto =
          scanned_next _ _ _ _ before.some _ _ c.max-slots.result c.in-Some.next before.onto c.part-test.true
          c.in-Some.ensures.told (grind (arith, common_steps));
      few = grind (arith, common_steps);
    }

pub scan-returns-clause-told : goal.scan-returns-clause-told
scan-returns-clause-told t c =
    scan_ends _ _ _ _ c.part.invariant.some _ _ c.part.invariant.onto c.part-test.false
