-- A line is no case where it has no space, or another verb, or fields that its verb does not take.
use Rattle.sre_lines.proofs.Terms.{rules}
use Rattle.sre_lines.proofs.Cuts.{uncut}
use Rattle.sre_lines.proofs.Lines.{no_words_no_case, no_subject_no_case, other_verb_is_no_case}
use Rattle.sre_lines.proofs.line.read_case.Goals as goal

pub returns-in_default-clause-refused : goal.returns-in_default-clause-refused
returns-in_default-clause-refused g c failed case words text lawful = uncut 32 _ _ _ c.in_default.ensures.none

pub returns-in_err-read_words-in-Some-Check-clause-refused : goal.returns-in_err-read_words-in-Some-Check-clause-refused
returns-in_err-read_words-in-Some-Check-clause-refused g c failed =
    no_words_no_case _ _ _ c.in-Some.ensures.parts c.in-Some.ensures.first
    (rw c.in-Some-Check.field-0-is at c.in-Some-Check.ensures.written)
    (c.in_err-read_words-in-Some-Check.ensures.refused (search rules))

pub returns-in_err-read_subject-in-Some-Find-clause-refused :
    goal.returns-in_err-read_subject-in-Some-Find-clause-refused
returns-in_err-read_subject-in-Some-Find-clause-refused g c failed =
    no_subject_no_case _ _ _ c.in-Some.ensures.parts c.in-Some.ensures.first _
    (rw c.in-Some-Find.field-0-is at c.in-Some-Find.ensures.written)
    (c.in_err-read_subject-in-Some-Find.ensures.refused (search rules))

pub returns-in-None-clause-refused : goal.returns-in-None-clause-refused
returns-in-None-clause-refused g c failed case words text lawful =
    other_verb_is_no_case _ _ _ c.in-Some.ensures.parts c.in-Some.ensures.first c.in-None.ensures.refused case words
    text
