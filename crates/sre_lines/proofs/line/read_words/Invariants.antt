use Rattle.sre_lines.proofs.Terms.{length}
use Rattle.sre_lines.proofs.Words.{ReadSoFar}
use Rattle.sre_lines.proofs.line.read_words.Given as goal

abbrev pub invariant-words : goal.invariant-words
invariant-words g l = ReadSoFar l.words.items l.left l.fn.field

abbrev pub decreases-words : goal.decreases-words
decreases-words g l = length l.left
