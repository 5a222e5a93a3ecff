use Rattle.sre_engine.proofs.Terms.{◌<◌, ◌-◌, length}
use Rattle.sre_engine.proofs.engine.prefix.rarest.Given as goal

abbrev pub invariant-word : goal.invariant-word
invariant-word l = record {
  among : l.place < length l.words;
}

abbrev pub decreases-word : goal.decreases-word
decreases-word l = length l.words - l.next
