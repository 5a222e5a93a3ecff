use Rattle.sre_lines.proofs.Terms.{◌≡◌, ◌*◌, take, numbers_of}
use Rattle.sre_lines.proofs.table.read_pairs.Given as goal

-- the pairs so far are the numbers so far
abbrev pub invariant-loop-i : goal.invariant-loop-i
invariant-loop-i l = numbers_of l.pairs.items ≡ take (2 * l.i) l.numbers
