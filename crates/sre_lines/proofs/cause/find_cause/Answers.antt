-- Four fields have to follow the command.
use Rattle.sre_lines.proofs.Terms.{arith, ap, sym, subst, refl, Find, verb_text, IsCauseOf}
use Rattle.std.specs.Prelude.{length}
use Rattle.sre_lines.proofs.Cuts.{parts_on, only_part_at, some_part}
use Rattle.sre_lines.proofs.Causes.{no_subject}
use Rattle.sre_lines.proofs.cause.find_cause.Goals as goal

pub returns-in_default : goal.returns-in_default
returns-in_default c finding =
    let parts = only_part_at 32 _ c.in_default.ensures.none in (Find finding, refl, omega (arith, ap length parts))

pub returns-in_default-split_once : goal.returns-in_default-split_once
returns-in_default-split_once c finding =
    let parts = parts_on 32 _ _ _ _ c.in-Some.ensures.parts c.in-Some.ensures.first
    (only_part_at 32 _ c.in_default-split_once.ensures.none) in
    (Find finding, refl, omega (arith, ap length parts))

pub returns-in_default-split_once-2 : goal.returns-in_default-split_once-2
returns-in_default-split_once-2 c finding =
    let parts = parts_on 32 _ _ _ _ c.in-Some.ensures.parts c.in-Some.ensures.first
    (parts_on 32 _ _ _ _ c.in-Some-split_once.ensures.parts c.in-Some-split_once.ensures.first
    (only_part_at 32 _ c.in_default-split_once-2.ensures.none)) in
    (Find finding, refl, omega (arith, ap length parts))

pub returns-in-Some-split_once-3 : goal.returns-in-Some-split_once-3
returns-in-Some-split_once-3 c finding =
    let parts = parts_on 32 _ _ _ _ c.in-Some.ensures.parts c.in-Some.ensures.first
    (parts_on 32 _ _ _ _ c.in-Some-split_once.ensures.parts c.in-Some-split_once.ensures.first
    (parts_on 32 _ _ _ _ c.in-Some-split_once-2.ensures.parts c.in-Some-split_once-2.ensures.first
    (parts_on 32 _ _ _ _ c.in-Some-split_once-3.ensures.parts c.in-Some-split_once-3.ensures.first refl))) in
    (Find finding, refl, omega (arith, ap length parts, some_part 32 c.in-Some-split_once-3._others.now))

pub field_cause-requires : goal.field_cause-requires
field_cause-requires c =
    no_subject _ _ _ _ _ _ _ c.in-Some.ensures.parts c.in-Some-split_once.ensures.parts
    c.in-Some-split_once-2.ensures.parts c.requires

pub returns : goal.returns
returns c finding =
    let parts = parts_on 32 _ _ _ _ c.in-Some.ensures.parts c.in-Some.ensures.first
    (parts_on 32 _ _ _ _ c.in-Some-split_once.ensures.parts c.in-Some-split_once.ensures.first
    (parts_on 32 _ _ _ _ c.in-Some-split_once-2.ensures.parts c.in-Some-split_once-2.ensures.first
    (only_part_at 32 _ c.in_default-split_once-3.ensures.none))) in
    subst (λ fs. IsCauseOf (verb_text (Find finding)) fs c.field_cause.result) (sym parts)
    (c.field_cause.ensures finding)
