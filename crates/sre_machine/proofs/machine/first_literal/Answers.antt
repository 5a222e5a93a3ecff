use Rattle.sre_machine.proofs.Terms.{arith, run_of, mark_operand, mark_refuses, mark_run, literal_demands}
use Rattle.sre_turns.proofs.semantics.StepsAtItems.{literal_operand}
use Rattle.sre_machine.proofs.machine.first_literal.Goals as goal

pub operand-number-requires : goal.operand-number-requires
operand-number-requires g c =
    mark_operand (run_of c.args.req.now) _ c.args.cursor c.in-MARK.ensures.code c.mark.invariant.at

pub mark-smaller : goal.mark-smaller
mark-smaller g c =
    omega (arith, mark_operand (run_of c.args.req.now) _ c.args.cursor c.in-MARK.ensures.code c.mark.invariant.at)

pub mark-preserved : goal.mark-preserved
mark-preserved g c = record {
  at = mark_run (run_of c.args.req.now) _ c.args.cursor c.in-MARK.ensures.code c.mark.invariant.at;
  same = λ p none.
      c.mark.invariant.same p (mark_refuses (run_of c.args.req.now) _ p c.in-MARK.ensures.code none);
}

pub operand-requires : goal.operand-requires
operand-requires g c =
    literal_operand (run_of c.args.req.now) _ c.args.cursor c.in-LITERAL.ensures.code c.mark.invariant.at

pub returns-in-LITERAL : goal.returns-in-LITERAL
returns-in-LITERAL g c = λ p lacking.
    c.mark.invariant.same p
    (literal_demands (run_of c.args.req.now) _ _ c.in-LITERAL.ensures.code c.operand.ensures.word p lacking)
