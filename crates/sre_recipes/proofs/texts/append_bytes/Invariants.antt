use Rattle.sre_recipes.proofs.Terms.{◌≡◌, ◌++◌, take}
use Rattle.sre_recipes.proofs.texts.append_bytes.Given as goal

abbrev pub invariant-loop-byte : goal.invariant-loop-byte
invariant-loop-byte g l = l.output.items ≡ l.fn.output.items ++ take l.byte-index l.bytes
