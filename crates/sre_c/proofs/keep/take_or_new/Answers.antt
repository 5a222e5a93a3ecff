use Rattle.sre_c.proofs.keep.take_or_new.Goals as goal

pub returns-in-Ok-clause-suits : goal.returns-in-Ok-clause-suits
returns-in-Ok-clause-suits c = rw c.in-Ok.ensures.ok (c.new.ensures.suits _ _)
