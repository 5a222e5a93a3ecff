use Rattle.sre_emit.proofs.Terms.{ℕ, ◌<◌, slice_index}
use Rattle.sre_emit.proofs.check.numbers_below.Given as goal

abbrev pub invariant-loop-number : goal.invariant-loop-number
invariant-loop-number l =
    (k : ℕ) → k < l.number-index → (slice_index l.numbers k < 256) × (slice_index l.numbers k < l.count)
