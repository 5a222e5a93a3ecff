use Rattle.sre_automata.proofs.Terms.{IfSome, map, meaning, cat_all, Contains}
use Rattle.sre_automata.proofs.needle.best_literal.Given as goal

abbrev pub invariant-part : goal.invariant-part
invariant-part l = IfSome l.best (λ bytes. Contains (cat_all (map meaning l.fn.parts)) bytes.now)
