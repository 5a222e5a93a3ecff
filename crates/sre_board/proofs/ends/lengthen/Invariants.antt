use Rattle.sre_board.proofs.Terms.{◌≡◌, ◌-◌, ◌≤◌, ℕ, length, slice_index_or}
use Rattle.sre_board.proofs.ends.lengthen.Given as goal

abbrev pub invariant-more : goal.invariant-more
invariant-more g l = record {
  same : (i : ℕ) → slice_index_or l.list.items i l.item ≡ slice_index_or l.fn.list.items i l.item;
  still : length l.fn.list.items ≤ length l.list.items;
}

abbrev pub decreases-more : goal.decreases-more
decreases-more g l = l.least - length l.list.items
