use Rattle.sre_machine.proofs.Terms.{ℕ, length, ◌-◌, Refuses, run_of}
use Rattle.sre_machine.proofs.long_repeats.demanded_at.Given as goal

abbrev pub invariant-mark : goal.invariant-mark
invariant-mark g l = (p : ℕ) → Refuses (run_of l.req) l.place p → Refuses (run_of l.req) l.fn.start p

abbrev pub decreases-mark : goal.decreases-mark
decreases-mark g l = length l.words - l.place
