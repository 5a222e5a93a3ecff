use Rattle.sre_chars.proofs.Terms.{◌≡◌, ◌+◌, length, count_by, begins_char}
use Rattle.sre_chars.proofs.text.beginnings_in_blocks.Given as goal

abbrev pub invariant-blocks-2 : goal.invariant-blocks-2
invariant-blocks-2 g l = l.count + count_by begins_char l.left ≡ count_by begins_char l.bytes

abbrev pub decreases-blocks-2 : goal.decreases-blocks-2
decreases-blocks-2 g l = length l.left
