use Rattle.sre_machine.proofs.Terms.{ℕ, ◌≡◌, ◌-◌, ◌<◌, List, length, slice_get, ap, subst, arith, rules, AreWords}
use Rattle.sre_machine.proofs.Terms.{are_words, AlternativesAsk, AskedMarks, AskedPlace, range_of, asks_for_any}
use Rattle.sre_machine.proofs.Terms.{told_or_any, asks_of, InstructionAsks}
use Rattle.sre_machine.proofs.Analyses.{MarksFit, asked_more, marks_more, none_before, all_untold, marks_untold}
use Rattle.sre_machine.proofs.Analyses.{none_told}
use Rattle.sre_machine.proofs.asked_places.ask_places.Goals as goal

pub place-init : goal.place-init
place-init g c =
    let items : List AskedPlace = c.fill.new.list.items in
    let twice : AskedMarks → AskedPlace = λ m. record { instruction = m; alternatives = m } in
    let is : twice c.any-marks.result ≡ asks_for_any = ap twice c.any-marks.ensures in
    let are : AreWords c.args.words.now = are_words _ (λ i. omega (arith, c.type_inv.words i)) in
    record {
      long = c.in_ok-fill.ensures.length;
      within = omega arith;
      asked = all_untold items (twice c.any-marks.result) is c.in_ok-fill.ensures.each c.args.words.now are;
      marks = marks_untold items (twice c.any-marks.result) is c.in_ok-fill.ensures.each;
      before = none_told items (twice c.any-marks.result) is c.in_ok-fill.ensures.each (length c.args.words.now);
    }

pub place-preserved : goal.place-preserved
place-preserved g c =
    let items : List AskedPlace = c.place.list.items in
    let p : ℕ = c.place.place - 1 in
    let new : AskedPlace = record { instruction = c.instruction.result; alternatives = c.alternatives.result } in
    let there : p < length items = omega (arith, c.place.invariant.long) in
    let before : told_or_any (slice_get items p) ≡ asks_for_any = c.place.invariant.before.each p (omega arith) in
    let fit : MarksFit new = (
      λ k l. (omega arith, omega (arith, l.1, c.instruction.type_inv)),
      λ k l. (omega arith, omega (arith, l.1, c.alternatives.type_inv)),
    ) in
    let asks : InstructionAsks c.args.words.now items p c.instruction.result =
    subst (λ xs. InstructionAsks c.args.words.now xs p c.instruction.result) c.as_slice.ensures.value
    c.instruction.ensures in
    let others : AlternativesAsk c.args.words.now (asks_of items) (range_of c.alternatives.result) p =
    subst (λ xs. AlternativesAsk c.args.words.now (asks_of xs) (range_of c.alternatives.result) p)
    c.as_slice-in-place.ensures.value c.alternatives.ensures in
    record {
      long = search rules;
      within = omega arith;
      asked =
          asked_more items p new there before fit c.args.words.now c.place.invariant.asked asks others;
      marks = marks_more items p new there before fit c.place.invariant.marks;
      before = none_before items p new there before fit c.place.place (omega arith) c.place.invariant.before;
    }
