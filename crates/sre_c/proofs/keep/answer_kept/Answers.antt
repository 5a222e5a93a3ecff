use Rattle.sre_c.proofs.keep.answer_kept.Goals as goal

pub answer-requires : goal.answer-requires
answer-requires g c = record { suits = c.memory_in.ensures.suits _ _ c.requires.suits }

pub answer_in-status-requires-clause-suits : goal.answer_in-status-requires-clause-suits
answer_in-status-requires-clause-suits g c = c.memory_in.ensures.suits _ _ c.requires.suits

pub answer_in-status-requires-clause-sets : goal.answer_in-status-requires-clause-sets
answer_in-status-requires-clause-sets g c = rw c.deref_mut.ensures.value (c.in-Some.ensures.sets _ _ c.requires.suits)

pub returns-clause-suits : goal.returns-clause-suits
returns-clause-suits g c =
    c.put_memory.ensures.suits _ _ c.answer_in-status.ensures.suits c.answer_in-status.ensures.sets
