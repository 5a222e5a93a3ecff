use Rattle.sre_machine.proofs.Terms.{◌+◌, ◌-◌, TurnsSoFar}
use Rattle.sre_machine.proofs.turns.remembering_turns.Given as goal

abbrev pub invariant-turn : goal.invariant-turn
invariant-turn g l =
    TurnsSoFar g.row.A.Denot l.req g.K.Plan.all g.K.Plan.limit l.fn.first l.next l.fn.board l.board l.fn.memo l.memo
    l.fn.turned l.turned l.fn.allowed l.allowed l.waits l.scan

abbrev pub decreases-turn : goal.decreases-turn
decreases-turn g l = g.K.Plan.limit + 1 - l.turned
