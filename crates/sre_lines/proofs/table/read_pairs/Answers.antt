-- One more pair is read. An odd number of numbers is no list of pairs.
use Rattle.sre_lines.proofs.Terms.{rules, arith}
use Rattle.sre_lines.proofs.Pairs.{one_pair_more, odd_is_no_pairs}
use Rattle.sre_lines.proofs.TableFiles.{no_pairs}
use Rattle.sre_lines.proofs.table.read_pairs.Goals as goal

pub loop-i-preserved : goal.loop-i-preserved
loop-i-preserved c =
    rw c.in_ok-push.ensures.items (one_pair_more c.loop-i.pairs.items _ _ _ c.loop-i.i
    c.loop-i.invariant (omega arith) (search rules) (search rules))

pub returns-then-numbers-ne0-clause-refused : goal.returns-then-numbers-ne0-clause-refused
returns-then-numbers-ne0-clause-refused c failed =
    no_pairs _ _ c.in_ok-read_words.ensures.read c.in_ok-read_words.ensures.fit
    (odd_is_no_pairs _ (search (rules, arith)))
