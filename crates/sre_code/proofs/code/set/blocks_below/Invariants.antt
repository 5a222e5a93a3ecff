use Rattle.sre_code.proofs.Terms.{ℕ, ◌<◌, slice_index, BytesBelow}
use Rattle.sre_code.proofs.code.set.blocks_below.Given as goal

abbrev pub invariant-loop-block : goal.invariant-loop-block
invariant-loop-block l = (k : ℕ) → k < l.block-index → BytesBelow l.count (slice_index l.blocks k)
