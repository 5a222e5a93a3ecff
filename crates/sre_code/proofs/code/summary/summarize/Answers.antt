use Rattle.sre_code.proofs.Terms.{arith}
use Rattle.sre_code.proofs.Walking.{none_unknown}
use Rattle.sre_code.proofs.Summaries.{noted_start, noted_next, noted_stops, noted_ends}
use Rattle.sre_code.proofs.code.summary.summarize.Goals as goal

pub instruction-init : goal.instruction-init
instruction-init c = noted_start c.args.words.now

pub returns-in_default : goal.returns-in_default
returns-in_default c = λ t w.
    noted_stops _ t w _ _ c.instruction.invariant (omega arith) (none_unknown _ _ c.in_default.ensures.0)

pub returns-in_default-next : goal.returns-in_default-next
returns-in_default-next c = λ t w.
    noted_stops _ t w _ _ c.instruction.invariant (omega arith) c.in_default-next.ensures

pub instruction-preserved : goal.instruction-preserved
instruction-preserved c =
    noted_next _ _ _ c.in-Ok.code _ _ c.instruction.invariant (omega arith) c.in-Some.ensures.1 c.in-Ok.ensures.1
    c.noted-sum.ensures

pub returns : goal.returns
returns c = λ t w. noted_ends _ t w _ _ c.instruction.invariant (omega arith)
