-- A field that is rejected is neither `all` nor two numbers with two dots between them.
use Rattle.sre_lines.proofs.Terms.{◌≡◌, true, false, ◌∙◌, arith}
use Rattle.sre_lines.proofs.Cuts.{unequal}
use Rattle.sre_lines.proofs.Lines.{no_window, no_dot, first_dot, no_next_dot, next_dot}
use Rattle.std.proofs.lemmas.Grind.{common_steps}
use Rattle.sre_lines.proofs.line.window_of.Goals as goal

pub returns-in_err-start-clause-refused : goal.returns-in_err-start-clause-refused
returns-in_err-start-clause-refused c =
    rw c.from_residual.ensures (no_window c.args.field.now (unequal _ _ _ c.if-eq.ensures c.as_slice.ensures)
    (λ start end ends _ _. no_dot _ start end c.in_err-start.ensures.none ends))

pub returns-in_err-between-clause-refused : goal.returns-in_err-between-clause-refused
returns-in_err-between-clause-refused c =
    rw c.from_residual-in_err-between.ensures
    (no_window c.args.field.now (unequal _ _ _ c.if-eq.ensures c.as_slice.ensures)
    (λ start end ends _ _. no_next_dot _ _ _ start end c.in_ok-start.ensures.parts c.in_ok-start.ensures.first ends
    c.in_err-between.ensures.none))

pub returns-then-not-is_empty-clause-refused : goal.returns-then-not-is_empty-clause-refused
returns-then-not-is_empty-clause-refused c =
    no_window c.args.field.now (unequal _ _ _ c.if-eq.ensures c.as_slice.ensures)
    (λ start end ends _ _. let dot = next_dot _ _ _ start end c.in_ok-start.ensures.parts c.in_ok-start.ensures.first
    ends _ _ c.in_ok-between.ensures.parts c.in_ok-between.ensures.first in
    let some : false ≡ true = rw dot.0 at c.if-not-is_empty.ensures in cc)

pub returns-in_err-decimal_number-clause-refused : goal.returns-in_err-decimal_number-clause-refused
returns-in_err-decimal_number-clause-refused c =
    rw c.from_residual-in_err-decimal_number.ensures
    (no_window c.args.field.now (unequal _ _ _ c.if-eq.ensures c.as_slice.ensures)
    (λ start end ends at_start _. c.in_err-decimal_number.ensures.refused at_start.0 at_start.1
    (at_start.2 ∙ (first_dot _ _ _ start end c.in_ok-start.ensures.parts c.in_ok-start.ensures.first ends).0)))

pub returns-in_err-decimal_number-2-clause-refused : goal.returns-in_err-decimal_number-2-clause-refused
returns-in_err-decimal_number-2-clause-refused c =
    rw c.from_residual-in_err-decimal_number-2.ensures
    (no_window c.args.field.now (unequal _ _ _ c.if-eq.ensures c.as_slice.ensures)
    (λ start end ends _ at_end. let dot = next_dot _ _ _ start end c.in_ok-start.ensures.parts
    c.in_ok-start.ensures.first ends _ _ c.in_ok-between.ensures.parts c.in_ok-between.ensures.first in
    c.in_err-decimal_number-2.ensures.refused at_end.0 at_end.1 (at_end.2 ∙ dot.1)))

pub returns-clause-written : goal.returns-clause-written
returns-clause-written c = grind (arith, common_steps)
