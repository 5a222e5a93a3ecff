use Rattle.sre_c.proofs.asks.write_in.Goals as goal

pub returns-clause-suits : goal.returns-clause-suits
returns-clause-suits g c = c.note_alone.ensures.suits _ _ (c.is_alone.ensures.suits _ _ c.requires.suits)

pub write_by_dfas-requires-clause-suits : goal.write_by_dfas-requires-clause-suits
write_by_dfas-requires-clause-suits g c = c.is_alone.ensures.suits _ _ c.requires.suits
