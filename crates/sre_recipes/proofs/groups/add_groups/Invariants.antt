use Rattle.sre_recipes.proofs.Terms.{◌≡◌, ◌≤◌, ◌-◌, ◌++◌, map, range_with_len, match_shown, numbered_group, option_map}
use Rattle.sre_recipes.proofs.groups.add_groups.Given as goal

abbrev pub invariant-group : goal.invariant-group
invariant-group g l = record {
  few : l.count ≤ l.several;
  so_far : map (option_map g.S.StrDrive.text) l.groups.items
      ≡ map (option_map g.S.StrDrive.text) l.fn.groups.items
      ++ map (numbered_group (g.S.StrDrive.text l.text) (match_shown l.state)) (range_with_len l.first l.count);
}

abbrev pub decreases-group : goal.decreases-group
decreases-group g l = l.several - l.count
