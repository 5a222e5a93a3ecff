use Rattle.sre_chars.proofs.Terms.{◌≡◌, ◌≤◌, begun}
use Rattle.sre_chars.proofs.text.beginnings_in_block.Given as goal

abbrev pub invariant-loop-i : goal.invariant-loop-i
invariant-loop-i g l = (l.count ≡ begun l.block l.i) × (l.count ≤ l.i)
