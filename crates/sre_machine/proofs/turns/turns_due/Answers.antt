use Rattle.std.proofs.Common.{arith}
use Rattle.sre_machine.proofs.Following.{each_most}
use Rattle.sre_machine.proofs.turns.turns_due.Goals as goal

pub returns-then-is_open-clause-each : goal.returns-then-is_open-clause-each
returns-then-is_open-clause-each g c = λ _ pl.
    each_most c.args.req.now c.pattern_codes.result c.longest_lookbehind.result c.args.scan
    c.saturating_sub-window.result c.min.result c.min-then-is_open.result c.pattern_codes.ensures
    c.longest_lookbehind.ensures (omega arith) (omega arith) (omega arith) (omega arith) pl
