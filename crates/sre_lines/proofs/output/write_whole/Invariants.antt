-- What is no longer left was appended.
use Rattle.sre_lines.proofs.Terms.{◌≡◌, ℕ, List, ◌++◌, Appends}
use Rattle.sre_lines.proofs.output.write_whole.Given as goal

abbrev pub invariant-writes : goal.invariant-writes
invariant-writes g l =
    (done : List ℕ) × (done ++ l.left ≡ l.fn.bytes)
    × Appends (g.W.Write.contents l.initial.out) (g.W.Write.contents l.out) done
