use Rattle.sre_code.proofs.Terms.{length, List, ◌-◌, SetItem, IsSetUpTo}
use Rattle.sre_code.proofs.FirstSets.{AlternativesLeft}
use Rattle.sre_code.proofs.code.first_set.each_begins_in.Given as goal

abbrev pub invariant-alternative : goal.invariant-alternative
invariant-alternative l =
    (set : List SetItem) → IsSetUpTo l.block.end l.block.words.now set
    → AlternativesLeft l.items l.start l.place l.block.uni.now set

abbrev pub decreases-alternative : goal.decreases-alternative
decreases-alternative l = length l.items - l.place
