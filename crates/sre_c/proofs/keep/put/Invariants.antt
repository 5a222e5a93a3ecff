use Rattle.sre_c.proofs.keep.put.Given as goal

abbrev pub ghost-of : goal.ghost-of
ghost-of g a = g.of
