use Rattle.sre_lines.proofs.Terms.{ℕ, List, length}
use Rattle.sre_lines.proofs.Words.{ReadSoFar}
use Rattle.sre_lines.proofs.cause.words_fault.Given as goal

abbrev pub invariant-words : goal.invariant-words
invariant-words l = (words : List ℕ) × ReadSoFar words l.left l.fn.field

abbrev pub decreases-words : goal.decreases-words
decreases-words l = length l.left
