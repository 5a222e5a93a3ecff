-- A range that is rejected has no two dots together after its first part, or a number with a fault.
use Rattle.sre_lines.proofs.Terms.{rules, ◌≡◌, true, false, inl, inr}
use Rattle.sre_lines.proofs.Cuts.{unequal}
use Rattle.sre_lines.proofs.Causes.{nothing}
use Rattle.sre_lines.proofs.Lines.{no_dot, no_next_dot, next_dot, ends_of, window_of_ends}
use Rattle.sre_lines.proofs.cause.window_fault.Goals as goal

pub returns-in_default-clause-fault : goal.returns-in_default-clause-fault
returns-in_default-clause-fault c = (
  unequal _ _ _ c.if-eq.ensures c.as_slice.ensures,
  λ start end. no_dot _ start end c.in_default.ensures.none,
)

pub returns-in_default-split_once-clause-fault : goal.returns-in_default-split_once-clause-fault
returns-in_default-split_once-clause-fault c = (
  unequal _ _ _ c.if-eq.ensures c.as_slice.ensures,
  λ start end ends. no_next_dot _ _ _ start end c.in-Some.ensures.parts c.in-Some.ensures.first ends
      c.in_default-split_once.ensures.none,
)

pub returns-then-not-is_empty-clause-fault : goal.returns-then-not-is_empty-clause-fault
returns-then-not-is_empty-clause-fault c = (
  unequal _ _ _ c.if-eq.ensures c.as_slice.ensures,
  λ start end ends. let dot = next_dot _ _ _ start end c.in-Some.ensures.parts c.in-Some.ensures.first ends _ _
      c.in-Some-split_once.ensures.parts c.in-Some-split_once.ensures.first in
      let is : false ≡ true = rw dot.0 at c.if-not-is_empty.ensures in cc,
)

pub returns-in-Some-number_fault-clause-fault : goal.returns-in-Some-number_fault-clause-fault
returns-in-Some-number_fault-clause-fault c = (
  _,
  _,
  ends_of _ _ _ _ _ c.in-Some.ensures.parts c.in-Some.ensures.first c.in-Some-split_once.ensures.parts
      (nothing _ c.if-not-is_empty.ensures),
  inl c.in-Some-number_fault.ensures.fault,
)

pub returns-in-Some-number_fault-2-clause-fault : goal.returns-in-Some-number_fault-2-clause-fault
returns-in-Some-number_fault-2-clause-fault c = (
  _,
  _,
  ends_of _ _ _ _ _ c.in-Some.ensures.parts c.in-Some.ensures.first c.in-Some-split_once.ensures.parts
      (nothing _ c.if-not-is_empty.ensures),
  inr (search rules, c.in-Some-number_fault-2.ensures.fault),
)

pub returns-in-None-clause-none : goal.returns-in-None-clause-none
returns-in-None-clause-none c =
    window_of_ends _ _ _
    (ends_of _ _ _ _ _ c.in-Some.ensures.parts c.in-Some.ensures.first c.in-Some-split_once.ensures.parts
    (nothing _ c.if-not-is_empty.ensures)) (search rules) c.in-None.ensures.none
