use Rattle.sre_c.proofs.asks.OnceAsks.write.Goals as goal

pub write_in-requires-clause-suits : goal.write_in-requires-clause-suits
write_in-requires-clause-suits g c = c.new-kept.ensures.suits _ _

pub write_in-requires-clause-sets : goal.write_in-requires-clause-sets
write_in-requires-clause-sets g c = c.new-memory.ensures.suits _
