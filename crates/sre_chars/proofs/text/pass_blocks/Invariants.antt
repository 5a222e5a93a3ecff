use Rattle.sre_chars.proofs.Terms.{◌≡◌, ◌+◌, ◌-◌, ◌≤◌, length, begun}
use Rattle.sre_chars.proofs.text.pass_blocks.Given as goal

abbrev pub invariant-blocks-2 : goal.invariant-blocks-2
invariant-blocks-2 g l =
    (l.offset ≤ length l.bytes)
    × (begun l.bytes l.offset + l.n ≡ begun l.bytes l.initial.offset + l.initial.n)

abbrev pub decreases-blocks-2 : goal.decreases-blocks-2
decreases-blocks-2 g l = length l.bytes - l.offset
