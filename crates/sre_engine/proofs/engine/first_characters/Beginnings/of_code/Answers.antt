use Rattle.sre_engine.proofs.Terms.{words_of, items_of}
use Rattle.sre_engine.proofs.Starting.{begins_in, begins_at_lines, knows_test, knows_lines}
use Rattle.sre_engine.proofs.engine.first_characters.Beginnings.of_code.Goals as goal

pub returns-clause-ascii : goal.returns-clause-ascii
unfolding items_of
returns-clause-ascii c =
    begins_in (words_of c.args.code.now) c.items-words.result.now c.items-words.ensures.same c.of_items-first.result
    c.of_items-first.ensures.bars c.first_ascii.result c.first_ascii.ensures.lacks

pub returns-clause-lines : goal.returns-clause-lines
unfolding items_of
returns-clause-lines c = λ told.
    begins_at_lines (words_of c.args.code.now) c.items-words.result.now c.items-words.ensures.same
    c.of_items-first.result c.of_items-first.ensures.bars (c.is_at_line_start.ensures.elsewhere told)

pub returns-clause-known : goal.returns-clause-known
unfolding items_of
returns-clause-known c =
    knows_test (words_of c.args.code.now) c.items-words.result.now c.items-words.ensures.same c.of_items-first.result
    c.of_items-first.ensures.first c.first_ascii.result c.first_ascii.ensures.known

pub returns-clause-known_lines : goal.returns-clause-known_lines
unfolding items_of
returns-clause-known_lines c =
    knows_lines (words_of c.args.code.now) c.items-words.result.now c.items-words.ensures.same
    c.of_items-first.result c.of_items-first.ensures.first c.is_at_line_start.result c.is_at_line_start.ensures.known
