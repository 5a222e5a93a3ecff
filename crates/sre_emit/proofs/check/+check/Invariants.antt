use Rattle.sre_emit.proofs.Terms.{◌≡◌, ◌≤◌, ◌+◌, min, drop, capped, HaveTrees, items_depth, parts_depth}
use Rattle.sre_emit.proofs.ItemsChecked.{Left, HaveAll, width_from, narrowest}
use Rattle.sre_emit.proofs.check.+check.Given as goal

abbrev pub invariant-check_items-loop-item : goal.invariant-check_items-loop-item
invariant-check_items-loop-item l =
    Left items_depth HaveTrees l.inside l.items l.item-index
    × (capped (l.least + width_from l.item-index l.items) ≡ width_from 0 l.items) × (l.least ≤ 4294967295)

abbrev pub invariant-check_parts-loop-part : goal.invariant-check_parts-loop-part
invariant-check_parts-loop-part l =
    Left parts_depth HaveAll l.inside l.parts l.part-index
    × (min l.least (narrowest (drop l.part-index l.parts)) ≡ narrowest l.parts) × (l.least ≤ 4294967295)
