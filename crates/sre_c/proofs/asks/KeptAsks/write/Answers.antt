use Rattle.sre_c.proofs.Terms.{refl, code_of}
use Rattle.sre_c.proofs.Codes.{items_in}
use Rattle.sre_c.proofs.asks.KeptAsks.write.Goals as goal

pub write_in-status-requires-clause-suits : goal.write_in-status-requires-clause-suits
write_in-status-requires-clause-suits g c = c.memory_in.ensures.suits _ _ c.requires.suits

pub write_in-status-requires-clause-sets : goal.write_in-status-requires-clause-sets
write_in-status-requires-clause-sets g c =
    rw (items_in (code_of c.args.request.now) refl, c.deref_mut.ensures.value)
    (c.in-Some.ensures.sets _ _ c.requires.suits)

pub returns-clause-suits : goal.returns-clause-suits
returns-clause-suits g c =
    c.put_memory.ensures.suits _ _ c.write_in-status.ensures.suits
    (rw (items_in (code_of c.args.request.now) refl) at c.write_in-status.ensures.sets)

pub returns-in_default-clause-suits : goal.returns-in_default-clause-suits
returns-in_default-clause-suits g c = c.memory_in.ensures.suits _ _ c.requires.suits
