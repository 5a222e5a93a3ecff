use Rattle.sre_patterns.proofs.Terms.{◌+◌, ◌-◌, length, map, meaning, items_of, Serves, ◌*◌}
use Rattle.sre_patterns.proofs.Nested.{BranchSoFar, SoFar}
use Rattle.sre_patterns.proofs.translate.+items.Given as goal

-- an item stands above its parts, and items in a row above each of them
abbrev pub decreases-item : goal.decreases-item
decreases-item l = l.depth * 3

abbrev pub decreases-sequence : goal.decreases-sequence
decreases-sequence l = l.depth * 3 + 1

abbrev pub decreases-branch : goal.decreases-branch
decreases-branch l = l.depth * 3 + 2

abbrev pub decreases-counted : goal.decreases-counted
decreases-counted l = l.depth * 3 + 2

abbrev pub decreases-atomic : goal.decreases-atomic
decreases-atomic l = l.depth * 3 + 2

abbrev pub decreases-condition : goal.decreases-condition
decreases-condition l = l.depth * 3 + 2

abbrev pub invariant-sequence-each : goal.invariant-sequence-each
invariant-sequence-each l =
    SoFar (Serves l.task) (items_of l.task.code) l.start l.end l.place (map meaning l.parts.items)

abbrev pub decreases-sequence-each : goal.decreases-sequence-each
decreases-sequence-each l = l.end - l.place

abbrev pub decreases-branch-alternative : goal.decreases-branch-alternative
decreases-branch-alternative l = length (items_of l.task.code) - l.at

abbrev pub invariant-branch-alternative : goal.invariant-branch-alternative
invariant-branch-alternative l =
    BranchSoFar l.task (items_of l.task.code) l.place l.at (map meaning l.all.items)
