use Rattle.sre_emit.proofs.Terms.{◌≡◌, ◌++◌, drop, map, item_of, in_order, spread}
use Rattle.sre_emit.proofs.block.spread.Given as goal

abbrev pub invariant-loop-item : goal.invariant-loop-item
invariant-loop-item g l =
    spread (in_order (map item_of l.items))
    ≡ l.words.items ++ spread (in_order (map item_of (drop l.item-index l.items)))
