use Rattle.sre_code.proofs.Terms.{length, drop, ◌≤◌, behind_spread}
use Rattle.sre_code.proofs.Claimed.{SameLeft}
use Rattle.sre_code.proofs.code.prefix.behind_spread.Given as goal

abbrev pub invariant-literal : goal.invariant-literal
invariant-literal l = record {
  within : l.place ≤ length l.words;
  left : SameLeft l.words l.start l.place (behind_spread l.literals) (behind_spread (drop l.literal-index l.literals));
}
