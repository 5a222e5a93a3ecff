use Rattle.sre_code.proofs.FirstSets.{other_told}
use Rattle.sre_code.proofs.code.first_set.first_in.Goals as goal

pub returns-in_default-code : goal.returns-in_default-code
returns-in_default-code c = λ set s.
    other_told _ _ c.args.block.now.uni.now set _ _ c.in-Ok.ensures.1 c.in_default-code.not-BRANCH
    (c.is_test_in.ensures set s)
