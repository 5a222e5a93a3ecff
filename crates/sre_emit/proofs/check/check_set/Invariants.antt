use Rattle.sre_emit.proofs.Terms.{◌↔◌, drop, map, set_item_of, LawfulSet}
use Rattle.sre_emit.proofs.check.check_set.Given as goal

abbrev pub invariant-loop-item : goal.invariant-loop-item
invariant-loop-item l =
    LawfulSet (map set_item_of (drop l.item-index l.set)) ↔ LawfulSet (map set_item_of l.set)
