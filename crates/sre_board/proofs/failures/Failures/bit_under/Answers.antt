use Rattle.sre_board.proofs.Terms.{◌∙◌, ap, sym, arith, [], Some, same_Some, slice_index_or, spot_at, Marks, Kept}
use Rattle.sre_model.proofs.CountingRuns.{beq_same}
use Rattle.std.proofs.lemmas.Grind.{elements}
use Rattle.sre_board.proofs.OneEntry.{no_index, bit_here}
use Rattle.sre_board.proofs.failures.Failures.bit_under.Goals as goal

pub returns-in_err-index-clause-number : goal.returns-in_err-index-clause-number
returns-in_err-index-clause-number g c = λ m.
    rw c.from_residual-in_err-index.ensures
    (no_index c.args.self.now c.args.words.now c.args.inside
    (spot_at c.args.point (slice_index_or c.args.chains.now c.args.innermost []) c.args.position m)
    c.in_ok-row.ensures.found.1 c.in_ok-row.row c.in_ok-row.ensures.laid
    (c.in_ok-place.ensures ∙ ap (λ n. Some n) (sym c.in_ok-row.ensures.found.0)) c.in_ok-row.ensures.found.2 _
    (c.deref.ensures.value ∙ ap (λ (k : Kept). k.shapes) c.self.view_is) c.in_ok-slot.slot c.in_ok-slot.ensures.2
    c.in_err-index.ensures)

pub returns : goal.returns
returns g c =
    let there = λ (m : Marks). bit_here c.args.self.now c.args.words.now c.args.inside
    (spot_at c.args.point (slice_index_or c.args.chains.now c.args.innermost []) c.args.position m)
    c.in_ok-row.ensures.found.1 c.in_ok-row.row c.in_ok-row.ensures.laid
    (c.in_ok-place.ensures ∙ ap (λ n. Some n) (sym c.in_ok-row.ensures.found.0)) c.in_ok-row.ensures.found.2 _
    (c.deref.ensures.value ∙ ap (λ (k : Kept). k.shapes) c.self.view_is) c.in_ok-slot.slot c.in_ok-slot.ensures.2
    c.in_ok-index.index c.in_ok-index.ensures.0 (beq_same _ _ c.if-row-is_again.false ∙ c.is_again.ensures)
    c.in_ok-slot.ensures.1 c.in_ok-slot.ensures.0 (omega (arith, c.if-position-row.false))
    (omega (arith, c.if-position-row-2.false)) c.in_ok-index.ensures.1 in
    record { number = λ m. (there m).0; bit = λ m. (there m).1; laid = c.in_ok-row.ensures.laid }

pub returns-in_err-row-clause-number : goal.returns-in_err-row-clause-number
returns-in_err-row-clause-number g c = λ m.
    rw c.from_residual-in_err-row.ensures
    (λ h. c.in_err-row.ensures.found h.entry.number h.entry.row h.entry.there
    (same_Some _ _ (sym h.entry.place ∙ c.in_ok-place.ensures)))

pub returns-in_err-slot-clause-number : goal.returns-in_err-slot-clause-number
returns-in_err-slot-clause-number g c = grind (arith, elements)
