use Rattle.sre_automata.proofs.Terms.{◌-◌, ◌≡◌, ◌≤◌, length, NoneBetween}
use Rattle.sre_automata.proofs.Automata.end_beside.Given as goal

abbrev pub invariant-beside : goal.invariant-beside
invariant-beside l =
    (l.self ≡ l.fn.self) × (l.at ≤ length l.hay) × (l.last ≤ length l.hay) × NoneBetween l.fn.self l.hay l.start l.at

abbrev pub decreases-beside : goal.decreases-beside
decreases-beside l = l.last - l.at
