use Rattle.sre_emit.proofs.Terms.{◌≡◌, ◌+◌, drop, map, item_of, in_order, leading, has_literals_alone}
use Rattle.sre_emit.proofs.block.leading.Given as goal

abbrev pub invariant-loop-item : goal.invariant-loop-item
invariant-loop-item l =
    (l.count ≡ l.item-index)
    × (leading (in_order (map item_of l.items))
    ≡ l.count + leading (in_order (map item_of (drop l.item-index l.items))))
    × (has_literals_alone (in_order (map item_of l.items))
    ≡ has_literals_alone (in_order (map item_of (drop l.item-index l.items))))
