use Rattle.sre_chars.proofs.Terms.{◌≡◌, drop, map, list_fault}
use Rattle.sre_chars.proofs.table.lists.check.Given as goal

-- the first fault of the list is the first of what is left
abbrev pub invariant-loop-item : goal.invariant-loop-item
invariant-loop-item g l =
    list_fault l.kind 0 (map g.E.Entry.pair l.entries)
    ≡ list_fault l.kind l.next (map g.E.Entry.pair (drop l.item-index l.entries))
