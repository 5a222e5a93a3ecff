use Rattle.sre_code.proofs.FirstSets.{alternatives_end, alternatives_stop}
use Rattle.sre_code.proofs.code.first_set.each_begins_in.Goals as goal

pub returns-then-span-eq0 : goal.returns-then-span-eq0
returns-then-span-eq0 c = λ set s.
    alternatives_end _ _ _ set _ _ (c.alternative.invariant set s) c.in-Ok.ensures.1 c.if-span-eq0.true

pub returns-then-not-begins_in : goal.returns-then-not-begins_in
returns-then-not-begins_in c = λ set s.
    alternatives_stop _ _ _ set _ _ (c.alternative.invariant set s) c.in-Ok.ensures.1 c.if-span-eq0.false
    (c.if-not-begins_in.ensures set s)
