-- The command, and the fields after it.
use Rattle.sre_lines.proofs.Terms.{[]}
use Rattle.sre_lines.specs.declared.line.Case.TheVariants as case
use Rattle.sre_lines.specs.declared.line.Verb.TheVariants as verb
use Rattle.sre_lines.proofs.Cuts.{first_part_at, only_part_at}
use Rattle.sre_lines.proofs.Causes.{behind_command, no_case_behind}
use Rattle.sre_lines.proofs.cause.cause_of.Goals as goal

pub returns-in_default : goal.returns-in_default
returns-in_default c = (c.args.line.now, [], only_part_at 32 _ c.in_default.ensures.none, c.lone_cause.ensures)

pub check_cause-requires : goal.check_cause-requires
check_cause-requires c words fit =
    no_case_behind _ _ _ c.requires c.in-Some.ensures.parts case.Check words [] fit
    (rw c.in-Some-Check.field-0-is at c.in-Some-Check.ensures.written)

pub find_cause-requires : goal.find_cause-requires
find_cause-requires c subject words text fit lawful =
    no_case_behind _ _ _ c.requires c.in-Some.ensures.parts (case.Find c.in-Some-Find._finding subject) words text
    (fit, lawful) (rw c.in-Some-Find.field-0-is at c.in-Some-Find.ensures.written)

pub returns-in-Some-Check : goal.returns-in-Some-Check
returns-in-Some-Check c =
    behind_command _ _ _ verb.Check _ c.in-Some.ensures.parts c.in-Some.ensures.first
    (rw c.in-Some-Check.field-0-is at c.in-Some-Check.ensures.written) c.check_cause.ensures

pub returns-in-Some-Find : goal.returns-in-Some-Find
returns-in-Some-Find c =
    behind_command _ _ _ (verb.Find c.in-Some-Find._finding) _ c.in-Some.ensures.parts c.in-Some.ensures.first
    (rw c.in-Some-Find.field-0-is at c.in-Some-Find.ensures.written) (c.find_cause.ensures c.in-Some-Find._finding)

pub returns-in-None : goal.returns-in-None
returns-in-None c =
    (_, _, first_part_at 32 _ _ _ c.in-Some.ensures.parts c.in-Some.ensures.first, c.in-None.ensures.refused)
