use Rattle.sre_c.proofs.Terms.{◌≡◌, ◌<◌, ◌+◌, ℕ, length, slice_index, match_shown, entry_of}
use Rattle.sre_c.proofs.walk.write_row.Given as goal

abbrev pub invariant-loop-place : goal.invariant-loop-place
invariant-loop-place l =
    (length l.rows ≡ length l.fn.rows)
    × ((q : ℕ) → q < l.place → slice_index l.rows (l.at + q) ≡ entry_of (match_shown l.state) q)
    × ((i : ℕ) → i < l.at → slice_index l.rows i ≡ slice_index l.fn.rows i)
