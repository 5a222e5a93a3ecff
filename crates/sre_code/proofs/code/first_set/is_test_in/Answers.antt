use Rattle.sre_code.proofs.FirstSets.{set_told}
use Rattle.sre_code.proofs.code.first_set.is_test_in.Goals as goal

pub returns-in-IN : goal.returns-in-IN
returns-in-IN c = λ set s.
    set_told _ _ c.args.block.now.end _ _ c.args.block.now.uni.now set _ c.know_words.ensures c.know_words-2.ensures
    c.requires.set.long c.requires.set.within (rw c.in-IN.is at c.in-Ok.ensures).1 c.in-Ok-operand.ensures.1
    c.are_words_of_set.ensures.0 c.are_words_of_set.ensures.1 s
