use Rattle.sre_machine.proofs.Terms.{arith, run_of, mark_operand, mark_refuses, mark_run}
use Rattle.sre_machine.proofs.branches.begins_otherwise.Goals as goal

pub operand-number-requires : goal.operand-number-requires
operand-number-requires g c =
    mark_operand (run_of c.args.req.now) _ c.args.cursor c.in-MARK.ensures.code c.mark.invariant.at

pub mark-smaller : goal.mark-smaller
mark-smaller g c =
    omega (arith, mark_operand (run_of c.args.req.now) _ c.args.cursor c.in-MARK.ensures.code c.mark.invariant.at)

pub mark-preserved : goal.mark-preserved
mark-preserved g c = record {
  at = mark_run (run_of c.args.req.now) _ c.args.cursor c.in-MARK.ensures.code c.mark.invariant.at;
  same = λ none.
      c.mark.invariant.same (mark_refuses (run_of c.args.req.now) _ c.args.cursor.position c.in-MARK.ensures.code none);
}
