use Rattle.sre_board.proofs.Terms.{ℕ, ◌<◌, ◌↔◌, [], length, slice_index_or, ◌^◌}
use Rattle.sre_board.proofs.CounterStates.{Slotted}
use Rattle.sre_board.proofs.slots.slot_of.Given as goal

abbrev pub invariant-walk : goal.invariant-walk
invariant-walk g l = record {
  there : l.id < length l.chains;
  few : l.slot < 2 ^ 24;
  same : (s : ℕ)
      → Slotted l.words l.position l.shapes l.row.end l.at l.slot (slice_index_or l.chains l.id []) s
      ↔ Slotted l.words l.position l.shapes l.row.end l.row.shape 0 (slice_index_or l.chains l.innermost []) s;
}

abbrev pub decreases-walk : goal.decreases-walk
decreases-walk g l = l.id
