use Rattle.sre_automata.proofs.Terms.{ap, ◌∙◌, List, ℕ, Bor}
use Rattle.sre_automata.proofs.Needles.{literal_contains, sequence_contains, contains_same}
use Rattle.sre_automata.proofs.needle.Needle.of.Goals.{in-Literal, in-Concat+in_ok-bytes-in-Concat}
use Rattle.sre_automata.proofs.needle.Needle.of.Goals as goal

pub returns : goal.returns
returns c = elim c.match-hir.branch [
  | in-Literal w ↦
      contains_same _ _ _ _ w.in-Literal.is
      (c.in-Ok.ensures.items ∙ ap (λ (b : Bor (List ℕ)). b.now) w.bytes-is ∙ w.deref-bytes.ensures.value)
      (literal_contains w.in-Literal.bytes)
  | in-Concat+in_ok-bytes-in-Concat w ↦
      contains_same _ _ _ _ w.in-Concat.is
      (c.in-Ok.ensures.items ∙ ap (λ (b : Bor (List ℕ)). b.now) w.bytes-is)
      (sequence_contains w.in-Concat.parts _ _ w.deref.ensures.value w.in_ok-bytes-in-Concat.ensures)
]
