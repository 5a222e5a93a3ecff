use Rattle.sre_c.proofs.Terms.{◌≡◌, ◌<◌, ◌+◌, ℕ, length, slice_index, match_with, entry_of, Marks}
use Rattle.sre_c.proofs.spans.write_span.Given as goal

abbrev pub invariant-loop-place : goal.invariant-loop-place
invariant-loop-place l =
    (length l.rows ≡ length l.fn.rows)
    × ((marks : Marks) (q : ℕ) → q < l.place
    → slice_index l.rows (l.at + q) ≡ entry_of (match_with l.start l.end marks) q)
    × ((i : ℕ) → i < l.at → slice_index l.rows i ≡ slice_index l.fn.rows i)
