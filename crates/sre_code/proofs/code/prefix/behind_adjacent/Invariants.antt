use Rattle.sre_code.proofs.Terms.{length, drop, ◌≤◌, behind_adjacent}
use Rattle.sre_code.proofs.Claimed.{SameLeft}
use Rattle.sre_code.proofs.code.prefix.behind_adjacent.Given as goal

abbrev pub invariant-literal : goal.invariant-literal
invariant-literal l = record {
  within : l.place ≤ length l.words;
  left : SameLeft l.words 0 l.place (behind_adjacent l.literals) (behind_adjacent (drop l.literal-index l.literals));
}
