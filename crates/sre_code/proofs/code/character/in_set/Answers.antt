use Rattle.std.proofs.lemmas.Option.{slice_get_within}
use Rattle.sre_code.proofs.Terms.{arith}
use Rattle.sre_code.proofs.ReadItems.{set_closed, set_ends_cut, set_exactly, set_here}
use Rattle.sre_code.proofs.code.character.in_set.Goals as goal

pub overflow_add-place : goal.overflow_add-place
overflow_add-place c = grind (arith, slice_get_within)

pub returns-in_err-tail : goal.returns-in_err-tail
returns-in_err-tail c = grind (arith, set_here)

pub returns-then-tail-place : goal.returns-then-tail-place
returns-then-tail-place c = grind (arith, set_here)

pub returns-in_err-opcode : goal.returns-in_err-opcode
returns-in_err-opcode c = grind (arith, set_ends_cut)

pub returns-in_default : goal.returns-in_default
returns-in_default c = grind (arith, set_closed)

pub returns : goal.returns
returns c = grind (arith, set_exactly)
