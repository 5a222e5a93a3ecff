use Rattle.sre_c.proofs.Terms.{rules, ◌∙◌, true, false, Ok, refl, arith, code_of, asked_of, end_of, walk-end}
use Rattle.sre_c.proofs.Matches.{unspent}
use Rattle.sre_c.proofs.Rows.{none_kept, stay, rows_keep, rows_over, row_more}
use Rattle.sre_c.proofs.spans.write_spans.Goals as goal

pub matches-init : goal.matches-init
matches-init g c = grind (arith, none_kept)

pub matches-preserved : goal.matches-preserved
matches-preserved g c =
    let kept = c.matches.invariant in
    let next = c.in-Ok-true.ensures in
    let span = next.row c.in-Ok-true.field-0-test in
    let r = c.matches.request in
    let steps = c.matches.walked.steps in
    rw c.note_next-in-matches.ensures.next (
      row_more kept.0 steps span kept.1 (unspent (code_of r) (asked_of r) span.start (Ok true) steps) (λ none. refl),
      omega (arith, kept.1),
      omega (arith, kept.1, kept.2),
      omega (arith, kept.3, c.write_next.auto.rows),
      kept.4,
      next.code ∙ kept.5,
      next.own,
      next.known,
      next.sets,
      next.here,
    )

pub returns-in-Ok-false-clause-rows : goal.returns-in-Ok-false-clause-rows
returns-in-Ok-false-clause-rows g c =
    let r = c.matches.request in
    let steps = c.matches.walked.steps in
    let none = c.in-Ok-false.ensures.none c.in-Ok-false.field-0-test in (
      r,
      rw (c.in-Ok-false.ensures.unwritten c.in-Ok-false.field-0-test)
          (rows_over c.matches.invariant.0 steps (λ t whole. walk-end (asked_of r) t (none.none t whole))
          (unspent (code_of r) (asked_of r) (end_of r) (Ok false) steps)),
    )

pub returns-in-Err-Memory-clause-rows : goal.returns-in-Err-Memory-clause-rows
returns-in-Err-Memory-clause-rows g c =
    let before = c.matches.invariant.0 in
    let steps = c.matches.walked.steps in (
      c.matches.request,
      (
        c.in-Err-Memory.ensures.refused,
        rw c.in-Err-Memory.ensures.kept (stay before steps steps),
        rows_keep before,
      ),
    )

pub returns-else-width-rows-clause-rows : goal.returns-else-width-rows-clause-rows
returns-else-width-rows-clause-rows g c =
    let before = c.matches.invariant.0 in
    (c.matches.request, (before.so_far, search rules, rows_keep before))

pub returns-after-matches-clause-rows : goal.returns-after-matches-clause-rows
returns-after-matches-clause-rows g c =
    let before = c.matches.invariant.0 in
    (c.matches.request, (before.so_far, search rules, rows_keep before))
