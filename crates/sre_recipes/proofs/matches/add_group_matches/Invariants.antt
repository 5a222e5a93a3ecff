use Rattle.sre_recipes.proofs.Terms.{◌≡◌, ◌≤◌, ◌-◌, ◌++◌, map, range_with_len, option_map, match_shown, match_seen}
use Rattle.sre_recipes.proofs.Terms.{placed_group}
use Rattle.sre_recipes.proofs.matches.add_group_matches.Given as goal

abbrev pub invariant-group : goal.invariant-group
invariant-group g l = record {
  few : l.count ≤ l.several;
  so_far : map (option_map (match_seen g.S.StrDrive.text)) l.groups.items
      ≡ map (option_map (match_seen g.S.StrDrive.text)) l.fn.groups.items
      ++ map (placed_group (g.S.StrDrive.text l.text) (g.S.Haystack.place l.text) (match_shown l.state))
      (range_with_len 0 l.count);
}

abbrev pub decreases-group : goal.decreases-group
decreases-group g l = l.several - l.count
