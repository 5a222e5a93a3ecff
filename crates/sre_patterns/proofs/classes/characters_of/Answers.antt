use Rattle.sre_patterns.proofs.Tests.{below-on, just-below}
use Rattle.sre_patterns.proofs.classes.characters_of.Goals as goal

pub returns-then-from-le-NEAR : goal.returns-then-from-le-NEAR
returns-then-from-le-NEAR c j t s = just-below _ _ _ (c.in_ok-taken_and_on.ensures j t s)

pub returns : goal.returns
returns c j t s =
    rw c.in_ok-push.ensures.items
    (below-on _ _ 2048 1114111 (just-below 2048 _ _ (c.in_ok-ranges.ensures j t s)))
