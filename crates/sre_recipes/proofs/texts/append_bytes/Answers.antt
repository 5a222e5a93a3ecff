use Rattle.sre_recipes.proofs.Terms.{arith, append_assoc, take_all}
use Rattle.std.proofs.lemmas.Grind.{take_at_read}
use Rattle.sre_recipes.proofs.texts.append_bytes.Goals as goal

pub loop-byte-preserved : goal.loop-byte-preserved
loop-byte-preserved g c = grind (arith, take_at_read, append_assoc)

pub returns-clause-ok : goal.returns-clause-ok
returns-clause-ok g c = grind (arith, take_all)
