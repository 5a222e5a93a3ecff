use Rattle.sre_c.proofs.asks.write_by_dfas.Goals as goal

pub write_rows-requires-clause-suits : goal.write_rows-requires-clause-suits
write_rows-requires-clause-suits g c = (c.begin.ensures.suits _ _ c.requires.suits, rw c.begin.ensures.end tt)

pub take-finder-requires : goal.take-finder-requires
take-finder-requires g c = rw c.pattern_codes.ensures c.requires.suits
