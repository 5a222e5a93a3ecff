use Rattle.sre_machine.proofs.Terms.{◌≡◌, ◌≤◌, length, AllAsked, AreMarks}
use Rattle.sre_machine.proofs.Analyses.{NoneBefore}
use Rattle.sre_machine.proofs.asked_places.ask_places.Given as goal

abbrev pub invariant-place : goal.invariant-place
invariant-place g l = record {
  long : length l.list.items ≡ length l.words;
  within : l.place ≤ length l.words;
  asked : AllAsked l.words l.list.items;
  marks : AreMarks l.list.items;
  before : NoneBefore l.list.items l.place;
}

abbrev pub decreases-place : goal.decreases-place
decreases-place g l = l.place
