use Rattle.sre_engine.proofs.engine.search_iter.SearchIter.new.Goals as goal

pub invariant_of-result-clause-first_sets : goal.invariant_of-result-clause-first_sets
invariant_of-result-clause-first_sets g c = c.new-sets.ensures.known _
