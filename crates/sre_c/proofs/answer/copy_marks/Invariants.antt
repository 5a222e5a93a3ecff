use Rattle.sre_c.proofs.Terms.{◌≡◌, ◌<◌, ℕ, length, slice_index, slice_index_or, None, mark_number}
use Rattle.sre_c.proofs.answer.copy_marks.Given as goal

abbrev pub invariant-loop-i : goal.invariant-loop-i
invariant-loop-i l =
    (length l.marks ≡ length l.fn.marks)
    × ((q : ℕ) → q < l.i → slice_index l.marks q ≡ mark_number (slice_index_or l.from q None))
