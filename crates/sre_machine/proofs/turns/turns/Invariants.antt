use Rattle.sre_machine.proofs.Terms.{◌+◌, ◌-◌, ◌≤◌, StandsWithin, Recalls, run_of}
use Rattle.sre_machine.proofs.turns.turns.Given as goal

abbrev pub invariant-turn : goal.invariant-turn
invariant-turn g l = record {
  stands : StandsWithin (run_of l.req) g.K.Plan.all (g.K.Plan.limit - l.turned) l.next l.board;
  within : l.turned ≤ g.K.Plan.limit;
  remembers : Recalls (run_of l.req) l.memo;
}

abbrev pub decreases-turn : goal.decreases-turn
decreases-turn g l = g.K.Plan.limit + 1 - l.turned
