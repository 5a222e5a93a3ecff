use Rattle.sre_request.proofs.Terms.{◌-◌, run_of}
use Rattle.sre_request.proofs.Repeating.{Repeated}
use Rattle.sre_request.proofs.references.is_repeated_folded.Given as goal

abbrev pub invariant-character : goal.invariant-character
invariant-character g l = Repeated (run_of l.req) l.opcode l.count l.fn.start l.fn.cursor l.of_group l.here l.passed

abbrev pub decreases-character : goal.decreases-character
decreases-character g l = l.count - l.passed
