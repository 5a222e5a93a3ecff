use Rattle.sre_chars.proofs.Terms.{◌≡◌, ◌+◌, ◌-◌, ◌≤◌, length, begun}
use Rattle.sre_chars.proofs.text.pass_bytes.Given as goal

abbrev pub invariant-loop-offset : goal.invariant-loop-offset
invariant-loop-offset l =
    (l.offset ≤ length l.bytes)
    × (begun l.bytes l.offset + l.n ≡ begun l.bytes l.initial.offset + l.initial.n)

abbrev pub decreases-loop-offset : goal.decreases-loop-offset
decreases-loop-offset l = length l.bytes - l.offset
