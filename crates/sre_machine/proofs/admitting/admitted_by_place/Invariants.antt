use Rattle.sre_machine.proofs.Terms.{◌≡◌, ◌≤◌, length, AllAdmitted}
use Rattle.sre_machine.proofs.admitting.admitted_by_place.Given as goal

abbrev pub invariant-place : goal.invariant-place
invariant-place g l = record {
  long : length l.list.items ≡ length l.words;
  within : l.place ≤ length l.words;
  admitted : AllAdmitted l.words l.list.items;
}

abbrev pub decreases-place : goal.decreases-place
decreases-place g l = l.place
