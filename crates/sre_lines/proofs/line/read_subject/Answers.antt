-- Where a field is rejected, the line has no fields of a subject: `w`, `t` and `v` cut off the words, the text and the
-- range.
use Rattle.sre_lines.proofs.Terms.{rules}
use Rattle.sre_lines.proofs.Cuts.{uncut}
use Rattle.sre_lines.proofs.Lines.{after_words, after_text, after_window}
use Rattle.sre_lines.proofs.line.read_subject.Goals as goal

pub returns-in_default-split_once-clause-refused : goal.returns-in_default-split_once-clause-refused
returns-in_default-split_once-clause-refused g c failed subject words text fit lawful is =
    let w = after_words _ _ _ subject c.in-Some.ensures.parts c.in-Some.ensures.first words text fit is in
    uncut 32 _ _ _ c.in_default-split_once.ensures.none w.1

pub returns-in_default-split_once-2-clause-refused : goal.returns-in_default-split_once-2-clause-refused
returns-in_default-split_once-2-clause-refused g c failed subject words text fit lawful is =
    let w = after_words _ _ _ subject c.in-Some.ensures.parts c.in-Some.ensures.first words text fit is in
    let t = after_text _ _ _ subject c.in-Some-split_once.ensures.parts c.in-Some-split_once.ensures.first text w.1 in
    uncut 32 _ _ _ c.in_default-split_once-2.ensures.none t.1

pub returns-in_default-flags_of-clause-refused : goal.returns-in_default-flags_of-clause-refused
returns-in_default-flags_of-clause-refused g c failed subject words text fit lawful is =
    let w = after_words _ _ _ subject c.in-Some.ensures.parts c.in-Some.ensures.first words text fit is in
    let t = after_text _ _ _ subject c.in-Some-split_once.ensures.parts c.in-Some-split_once.ensures.first text w.1 in
    let v = after_window _ _ _ subject c.in-Some-split_once-2.ensures.parts c.in-Some-split_once-2.ensures.first
    lawful.0 t.1 in
    c.in_default-flags_of.ensures.refused subject.flags v.1

pub returns-in_default-window_of-clause-refused : goal.returns-in_default-window_of-clause-refused
returns-in_default-window_of-clause-refused g c failed subject words text fit lawful is =
    let w = after_words _ _ _ subject c.in-Some.ensures.parts c.in-Some.ensures.first words text fit is in
    let t = after_text _ _ _ subject c.in-Some-split_once.ensures.parts c.in-Some-split_once.ensures.first text w.1 in
    let v = after_window _ _ _ subject c.in-Some-split_once-2.ensures.parts c.in-Some-split_once-2.ensures.first
    lawful.0 t.1 in
    c.in_default-window_of.ensures.refused subject.window lawful.0 v.0

pub returns-in_err-read_words-clause-refused : goal.returns-in_err-read_words-clause-refused
returns-in_err-read_words-clause-refused g c failed subject words text fit lawful is =
    let w = after_words _ _ _ subject c.in-Some.ensures.parts c.in-Some.ensures.first words text fit is in
    c.in_err-read_words.ensures.refused (search rules) words fit w.0

pub returns-in_err-text-clause-refused : goal.returns-in_err-text-clause-refused
returns-in_err-text-clause-refused g c failed subject words text fit lawful is =
    let w = after_words _ _ _ subject c.in-Some.ensures.parts c.in-Some.ensures.first words text fit is in
    let t = after_text _ _ _ subject c.in-Some-split_once.ensures.parts c.in-Some-split_once.ensures.first text w.1 in
    c.in_err-text.ensures.refused (search rules) subject.text text lawful.1 lawful.2 t.0

pub returns-in_default-clause-refused : goal.returns-in_default-clause-refused
returns-in_default-clause-refused g c failed subject words text fit lawful =
    uncut 32 _ _ _ c.in_default.ensures.none
