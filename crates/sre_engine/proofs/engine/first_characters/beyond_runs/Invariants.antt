use Rattle.sre_engine.proofs.Terms.{◌-◌, length, Tree, TreeStands, HasTree}
use Rattle.sre_engine.proofs.FirstSets.{Beyond}
use Rattle.sre_engine.proofs.engine.first_characters.beyond_runs.Given as goal

abbrev pub invariant-run : goal.invariant-run
invariant-run l = record {
  there : HasTree l.words l.place;
  beyond : (t : Tree) → TreeStands l.words l.fn.start t → Beyond l.words t l.place l.characters;
}

abbrev pub decreases-run : goal.decreases-run
decreases-run l = length l.words - l.place
