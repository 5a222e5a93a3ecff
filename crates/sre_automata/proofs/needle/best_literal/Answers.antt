use Rattle.sre_automata.proofs.Terms.{◌∙◌, subst, sym, map, meaning, cat_all, Contains}
use Rattle.sre_automata.proofs.Needles.{part_contains}
use Rattle.sre_automata.proofs.needle.best_literal.Goals.{in-Literal+then-own-most, in-Literal+else-own-most}
use Rattle.sre_automata.proofs.needle.best_literal.Goals.{in_default}
use Rattle.sre_automata.proofs.needle.best_literal.Goals as goal

pub part-preserved : goal.part-preserved
part-preserved c = elim c.match-part.branch [
  | in-Literal+then-own-most w ↦
      let whole = cat_all (map meaning c.args.parts.now) in
      rw w.best-is
      (subst (λ b. Contains whole b) (sym w.deref-then-own-most.ensures.value)
      (part_contains c.args.parts.now c.part.part-index c.part-item.result w.in-Literal.bytes c.part-test.true
      (sym c.part-item.is ∙ w.in-Literal.is)))
  | in-Literal+else-own-most w ↦ rw w.best-is c.part.invariant
  | in_default w ↦ rw w.best-is c.part.invariant
]
