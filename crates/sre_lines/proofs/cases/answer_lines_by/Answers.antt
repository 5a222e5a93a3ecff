-- The lines before the one at hand are answered, and so are all of them, or those before the fault.
use Rattle.sre_lines.proofs.FileLines.{at_first, next_split, last_split, one_line_more, all_lines, stops_at, where_err}
use Rattle.sre_lines.proofs.Terms.{◌∙◌, refl, on_ok_weaker, arith}
use Rattle.std.proofs.lemmas.Grind.{common_steps}
use Rattle.sre_lines.proofs.cases.answer_lines_by.Goals as goal

pub lines-init : goal.lines-init
lines-init g c = record { table = refl; detail = refl; so_far = at_first _ _ c.args.file.now _ }

pub returns-in_default-clause-answers : goal.returns-in_default-clause-answers
returns-in_default-clause-answers g c =
    on_ok_weaker c.answer_line.result (all_lines c.lines.invariant.so_far c.in_default.ensures.none _)
    (rw (c.lines.invariant.table, c.lines.invariant.detail) at c.answer_line.ensures.answers)

pub returns-in_default-clause-stopped : goal.returns-in_default-clause-stopped
returns-in_default-clause-stopped g c =
    let so_far = c.lines.invariant.so_far in
    where_err c.answer_line.result _ _ _ (stops_at so_far _ _ _ (last_split so_far.at c.in_default.ensures.none))
    (rw (c.lines.invariant.table, c.lines.invariant.detail) at c.answer_line.ensures.begun)
    c.answer_line.ensures.no_case

pub returns-in-Err-clause-stopped : goal.returns-in-Err-clause-stopped
returns-in-Err-clause-stopped g c =
    let so_far = c.lines.invariant.so_far in
    stops_at so_far _ _ _ (next_split so_far.at _ _ c.in-Some.ensures.parts c.in-Some.ensures.first) _
    (rw (c.lines.invariant.table, c.lines.invariant.detail) at c.in-Err.ensures.begun) c.in-Err.ensures.no_case

pub lines-preserved : goal.lines-preserved
lines-preserved g c = record {
  table = c.answer_line-in-lines.ensures.table ∙ c.lines.invariant.table;
  detail = c.answer_line-in-lines.ensures.detail ∙ c.lines.invariant.detail;
  so_far = one_line_more c.lines.invariant.so_far _ _ c.in-Some.ensures.parts c.in-Some.ensures.first _
      (rw (c.lines.invariant.table, c.lines.invariant.detail) at c.in-Ok.ensures.answers);
}

pub lines-smaller : goal.lines-smaller
lines-smaller g c = grind (arith, common_steps)
