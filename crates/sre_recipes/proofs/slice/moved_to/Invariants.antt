use Rattle.sre_recipes.proofs.Terms.{◌-◌, ◌≤◌}
use Rattle.sre_recipes.proofs.slice.moved_to.Given as goal

abbrev pub invariant-forward : goal.invariant-forward
invariant-forward g l = record {
  stands : g.S.StrDrive.stands l.text l.cursor l.cursor.position;
  before : l.cursor.position ≤ l.position;
}

abbrev pub decreases-forward : goal.decreases-forward
decreases-forward g l = l.position - l.cursor.position
