use Rattle.sre_machine.proofs.Terms.{◌≡◌, ◌≤◌, length, AllTold}
use Rattle.sre_machine.proofs.set_members.set_members.Given as goal

abbrev pub invariant-place : goal.invariant-place
invariant-place g l = record {
  long : length l.list.items ≡ length l.words;
  within : l.place ≤ length l.words;
  told : AllTold l.words l.list.items;
}

abbrev pub decreases-place : goal.decreases-place
decreases-place g l = l.place
