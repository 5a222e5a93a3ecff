use Rattle.sre_chars.proofs.Terms.{◌≡◌, ◌+◌, ◌≤◌, length, IsCharBoundary, begun}
use Rattle.sre_chars.proofs.text.pass_bytes_back.Given as goal

abbrev pub invariant-loop-n : goal.invariant-loop-n
invariant-loop-n l =
    (l.offset ≤ length l.bytes)
    × (begun l.bytes l.offset + l.initial.n ≡ begun l.bytes l.initial.offset + l.n)
    × (l.n ≡ 0 → IsCharBoundary l.bytes l.offset)

abbrev pub decreases-loop-n : goal.decreases-loop-n
decreases-loop-n l = l.offset
