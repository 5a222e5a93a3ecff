use Rattle.sre_recipes.proofs.Terms.{take_all}
use Rattle.sre_recipes.proofs.replace.append_replacement.Goals as goal

pub returns-clause-ok : goal.returns-clause-ok
returns-clause-ok g c = rw (take_all _ c.args.template.now c.piece-test.false) at c.piece.invariant.so_far
