use Rattle.sre_chars.proofs.Terms.{◌≡◌, ◌+◌, count_by, begins_char, begun}
use Rattle.sre_chars.proofs.text.beginnings.Given as goal

abbrev pub invariant-loop-i : goal.invariant-loop-i
invariant-loop-i l = l.count + count_by begins_char l.left ≡ count_by begins_char l.bytes + begun l.left l.i
