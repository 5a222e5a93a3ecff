-- The seal: a fact that comes by its lemma alone, since no other file can unfold it.
-- Public clauses cite the fact; the lemma is for the proofs of sre_growth, and no other crate may list this one.

-- a growth of a list was refused, whose allocator has this type
pub Refused : Type 0 → Type 0
Refused A = Unit {0}

-- to be said by a growth alone, where the list's own growth was refused
pub refused : (A : Type 0) → Refused A
unfolding Refused
refused A = tt

pub one_refused : (A : Type 0) → IsProp (Refused A)
unfolding Refused
one_refused A = hlevel
