use Rattle.sre_board.proofs.Terms.{◌-◌, length, HoldsOpenMore, KeepsOpenEnds}
use Rattle.sre_board.proofs.OpenSpots.{GoneOver}
use Rattle.sre_board.proofs.ends.Ends.keep_open.Given as goal

abbrev pub invariant-choice : goal.invariant-choice
invariant-choice g l = record {
  gone : GoneOver l.failures l.words l.end l.self l.board.choices l.depth;
  more : HoldsOpenMore l.failures l.words l.board.choices l.end l.fn.self l.self;
  kept : KeepsOpenEnds l.failures l.words l.board.choices l.end l.fn.self l.self;
}

abbrev pub decreases-choice : goal.decreases-choice
decreases-choice g l = length l.board.choices - l.depth
