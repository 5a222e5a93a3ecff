use Rattle.sre_engine.proofs.Terms.{◌-◌, ℕ, length, Trees, ReadsBranch}
use Rattle.sre_engine.proofs.FirstSets.{Left}
use Rattle.sre_engine.proofs.engine.first_characters.first_characters.Given as goal

abbrev pub invariant-alternative : goal.invariant-alternative
invariant-alternative l =
    (j : ℕ) (ts : Trees) → ReadsBranch l.words l.fn.start j ts → Left l.words j ts l.place l.characters

abbrev pub decreases-alternative : goal.decreases-alternative
decreases-alternative l = length l.words - l.place
