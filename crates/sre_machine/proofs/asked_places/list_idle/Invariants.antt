use Rattle.sre_machine.proofs.Terms.{◌≡◌, ◌-◌, length, AllAsked}
use Rattle.sre_machine.proofs.Analyses.{SaysOfNone}
use Rattle.sre_machine.proofs.asked_places.list_idle.Given as goal

abbrev pub invariant-place : goal.invariant-place
invariant-place g l = record {
  long : length l.idle.items ≡ l.place;
  asked : AllAsked l.words l.asked.items;
  none : SaysOfNone l.asked.items l.idle.items;
}

abbrev pub decreases-place : goal.decreases-place
decreases-place g l = length l.asked.items - l.place
