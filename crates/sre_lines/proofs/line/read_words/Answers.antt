-- What is left of the field holds the words that are not read yet.
use Rattle.sre_lines.proofs.Terms.{rules, on_ok_weaker}
use Rattle.sre_lines.proofs.Cuts.{unequal, first_part_at, only_part_at}
use Rattle.sre_lines.proofs.Words.{none_read, one_read, last_word, last_fits, no_words}
use Rattle.sre_lines.proofs.line.read_words.Goals as goal

pub words-init : goal.words-init
words-init g c =
    rw c.clear.ensures.items (none_read c.args.field.now (unequal _ _ _ c.if-eq.ensures c.as_slice.ensures))

pub returns-in_default-clause-refused : goal.returns-in_default-clause-refused
returns-in_default-clause-refused g c failed =
    no_words _ _ _ _ _ c.words.invariant (only_part_at 44 _ c.in_default.ensures.none)
    (c.push_word.ensures.refused failed)

pub returns-in_err-push_word-clause-refused : goal.returns-in_err-push_word-clause-refused
returns-in_err-push_word-clause-refused g c failed =
    no_words _ _ _ _ _ c.words.invariant (first_part_at 44 _ _ _ c.in-Some.ensures.parts c.in-Some.ensures.first)
    (c.in_err-push_word.ensures.refused (search rules))

pub words-preserved : goal.words-preserved
words-preserved g c =
    let (n, written, is, fits) = c.in_ok-push_word.ensures.read in
    rw is (one_read _ _ _ _ _ n c.words.invariant c.in-Some.ensures.parts c.in-Some.ensures.first fits written)

pub returns-in_default-clause-read : goal.returns-in_default-clause-read
returns-in_default-clause-read g c =
    on_ok_weaker c.push_word.result (last_word c.words.invariant c.in_default.ensures.none) c.push_word.ensures.read

pub returns-in_default-clause-fit : goal.returns-in_default-clause-fit
returns-in_default-clause-fit g c =
    on_ok_weaker c.push_word.result (last_fits c.words.invariant c.in_default.ensures.none) c.push_word.ensures.read
