use Rattle.sre_c.proofs.Terms.{◌≡◌, ◌+◌, false, Lacks}
use Rattle.sre_c.proofs.numbers.is_in_block.Given as goal

abbrev pub invariant-loop-i : goal.invariant-loop-i
invariant-loop-i g l = l.is_there ≡ false → Lacks l.numbers l.character l.from (l.from + l.i)
