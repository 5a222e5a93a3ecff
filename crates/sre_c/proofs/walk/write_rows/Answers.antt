use Rattle.sre_c.proofs.Terms.{rules, ◌*◌, ap, arith}
use Rattle.sre_c.proofs.Rows.{rows_keep}
use Rattle.sre_c.proofs.walk.write_rows.Goals as goal

pub matches-preserved : goal.matches-preserved
matches-preserved g c =
    let kept = c.matches.invariant in
    let places = ap (λ n. n * c.args.width) c.in_default.ensures.count in (
      c.in_default.ensures.rows.each c.args.request.now c.args.walked.now.steps kept.0,
      omega (arith, kept.1, places),
      omega (arith, kept.1, kept.2),
      omega (arith, kept.3, c.write_next.auto.rows),
      c.in_default.ensures.suits,
      c.in_default.ensures.sets,
      c.in_default.ensures.here,
    )

pub returns-in-Some : goal.returns-in-Some
returns-in-Some g c =
    let ends = c.in-Some.ensures.rows.each c.args.request.now c.args.walked.now.steps c.matches.invariant.0 in
    record {
      rows = ends.0;
      steps = ends.1;
      unlimited = ends.2;
      suits = c.in-Some.ensures.suits;
      sets = c.in-Some.ensures.sets;
    }

pub returns-else-width-rows-clause-rows : goal.returns-else-width-rows-clause-rows
returns-else-width-rows-clause-rows g c =
    let before = c.matches.invariant.0 in
    (before.so_far, search rules, rows_keep before)

pub returns-after-matches-clause-rows : goal.returns-after-matches-clause-rows
returns-after-matches-clause-rows g c =
    let before = c.matches.invariant.0 in
    (before.so_far, search rules, rows_keep before)
