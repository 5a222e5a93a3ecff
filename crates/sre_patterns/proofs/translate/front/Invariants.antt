use Rattle.sre_patterns.proofs.Terms.{◌-◌, map, meaning, items_of, uni_of, CoversStart, view_of}
use Rattle.sre_patterns.proofs.Nested.{SoFar}
use Rattle.sre_patterns.proofs.translate.front.Given as goal

abbrev pub invariant-each : goal.invariant-each
invariant-each l =
    SoFar (CoversStart (view_of l.task.encoding) (uni_of l.code)) (items_of l.code) 0 l.end l.place
    (map meaning l.parts.items)

abbrev pub decreases-each : goal.decreases-each
decreases-each l = l.end - l.place
