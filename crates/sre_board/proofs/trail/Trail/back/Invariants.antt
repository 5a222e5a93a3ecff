use Rattle.sre_board.proofs.Terms.{◌≡◌, ◌+◌, ◌≤◌, length, take, states}
use Rattle.sre_board.proofs.trail.Trail.back.Given as goal

abbrev pub invariant-back : goal.invariant-back
invariant-back g l = record {
  in_range : l.keep ≤ length l.self.past;
  same : take (l.keep + 1) (states l.self) ≡ take (l.keep + 1) (states l.initial.self);
}

abbrev pub decreases-back : goal.decreases-back
decreases-back g l = length l.self.past
