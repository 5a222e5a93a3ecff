use Rattle.sre_board.proofs.Terms.{◌<◌, [], length, slice_index_or}
use Rattle.sre_turns.specs.Asked.{SaysOfBodies}
use Rattle.sre_board.proofs.places.says_of_bodies.Given as goal

abbrev pub invariant-walk : goal.invariant-walk
invariant-walk g l = record {
  there : l.id < length l.chains;
  all : SaysOfBodies l.list (slice_index_or l.chains l.id [])
      → SaysOfBodies l.list (slice_index_or l.chains l.innermost []);
}

abbrev pub decreases-walk : goal.decreases-walk
decreases-walk g l = l.id
