use Rattle.sre_chars.proofs.Terms.{◌≡◌, ◌+◌, ◌≤◌, begun}
use Rattle.sre_chars.proofs.text.pass_blocks_back.Given as goal

abbrev pub invariant-blocks-2 : goal.invariant-blocks-2
invariant-blocks-2 g l =
    (l.offset ≤ l.initial.offset)
    × (begun l.bytes l.offset + l.initial.n ≡ begun l.bytes l.initial.offset + l.n)
    × (l.n ≡ 0 → l.offset ≡ l.initial.offset)

abbrev pub decreases-blocks-2 : goal.decreases-blocks-2
decreases-blocks-2 g l = l.offset
