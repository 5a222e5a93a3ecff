use Rattle.sre_recipes.proofs.Terms.{◌<◌, ◌-◌, ℕ, length}
use Rattle.sre_recipes.proofs.pattern.cursor_from.Given as goal

abbrev pub invariant-inside : goal.invariant-inside
invariant-inside g l = record {
  stands : g.S.StrDrive.stands l.text l.cursor l.cursor.position;
  first : (q : ℕ) → q < l.cursor.position → g.S.Haystack.place l.text q < l.offset;
}

abbrev pub decreases-inside : goal.decreases-inside
decreases-inside g l = length (g.S.StrDrive.text l.text) - l.cursor.position
