-- The words before what is left are read, and the next one is another, or has a fault.
use Rattle.sre_lines.proofs.Terms.{rules, [], IsWords, IsWord}
use Rattle.std.proofs.lemmas.Option.{IfSome_then}
use Rattle.sre_lines.proofs.Cuts.{unequal, first_part_at, only_part_at}
use Rattle.sre_lines.proofs.Causes.{where_none}
use Rattle.sre_lines.proofs.Words.{none_read, one_read, all_read, fault_at}
use Rattle.sre_lines.proofs.cause.words_fault.Goals as goal

pub words-init : goal.words-init
words-init c = ([], none_read _ (unequal _ _ _ c.if-eq.ensures c.as_slice.ensures))

pub returns-in_default-clause-none : goal.returns-in_default-clause-none
returns-in_default-clause-none c =
    let last : IsWord c.words.left.now → IsWords c.args.field.now = λ word.
    let read = all_read _ _ _ word.0 c.words.invariant.1 c.in_default.ensures.none word.1 word.2 in
    (_, read.0, read.1) in
    where_none c.number_fault.result last c.number_fault.ensures.none

pub returns-in_default-clause-fault : goal.returns-in_default-clause-fault
returns-in_default-clause-fault c =
    IfSome_then c.number_fault.result c.number_fault.ensures.fault
    (fault_at _ _ _ _ _ c.words.invariant.1 (only_part_at 44 _ c.in_default.ensures.none))

pub returns-in-Some-number_fault-clause-fault : goal.returns-in-Some-number_fault-clause-fault
returns-in-Some-number_fault-clause-fault c =
    fault_at _ _ _ _ _ c.words.invariant.1 (first_part_at 44 _ _ _ c.in-Some.ensures.parts c.in-Some.ensures.first) _
    c.in-Some-number_fault.ensures.fault

pub words-preserved : goal.words-preserved
words-preserved c =
    let word : IsWord c.in-Some.digits.now = search rules in
    (_, one_read _ _ _ _ _ word.0 c.words.invariant.1 c.in-Some.ensures.parts c.in-Some.ensures.first word.1 word.2)
