use Rattle.sre_board.proofs.Terms.{◌≡◌, ℕ, ◌<◌, ◌≤◌, ◌*◌, List, [], ◌++◌, length, slice_index_or, ◌^◌, repeats, slots}
use Rattle.sre_board.proofs.Terms.{WordsThere}
use Rattle.sre_board.proofs.slots.add_shape.Given as goal

abbrev pub invariant-walk : goal.invariant-walk
invariant-walk g l = record {
  there : l.id < length l.chains;
  few : l.slots ≤ 2 ^ 24;
  more : (more : List ℕ) × (l.shapes.items ≡ l.initial.shapes.items ++ more);
  rest : l.shapes.items ++ repeats (slice_index_or l.chains l.id [])
      ≡ l.initial.shapes.items ++ repeats (slice_index_or l.chains l.innermost []);
  all : WordsThere l.words (repeats (slice_index_or l.chains l.innermost []))
      → slots l.words (repeats (slice_index_or l.chains l.innermost [])) ≤ 2 ^ 24
      → WordsThere l.words (repeats (slice_index_or l.chains l.id []))
      × (l.slots * slots l.words (repeats (slice_index_or l.chains l.id []))
      ≡ slots l.words (repeats (slice_index_or l.chains l.innermost [])));
}

abbrev pub decreases-walk : goal.decreases-walk
decreases-walk g l = l.id
