use Rattle.sre_machine.proofs.Terms.{◌≡◌, length, GoesBack}
use Rattle.sre_machine.proofs.machine.back.Given as goal

abbrev pub invariant-choice : goal.invariant-choice
invariant-choice g l = GoesBack g.row.A.Denot (g.row.KEEPS ≡ 0 → ⊥) l.req l.fn.board l.fn.memo l.board l.memo

abbrev pub decreases-choice : goal.decreases-choice
decreases-choice g l = length l.board.choices
