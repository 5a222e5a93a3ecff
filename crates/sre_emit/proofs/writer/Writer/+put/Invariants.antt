use Rattle.sre_emit.proofs.Terms.{All, true, ◌≡◌, drop, has_alternatives, item_has_alternatives, Wrote}
use Rattle.sre_emit.proofs.ItemsWritten.{items_words, parts_words}
use Rattle.sre_emit.proofs.writer.Writer.+put.Given as goal

abbrev pub invariant-put_items-loop-at : goal.invariant-put_items-loop-at
invariant-put_items-loop-at g l =
    Wrote g.row.A.Denot l.initial.self l.self (items_words (drop l.at l.items))
    × All (λ x. item_has_alternatives x ≡ true) l.items

abbrev pub invariant-put_parts-loop-at : goal.invariant-put_parts-loop-at
invariant-put_parts-loop-at g l =
    Wrote g.row.A.Denot l.fn.self l.self (parts_words (drop l.at l.parts))
    × All (λ p. has_alternatives p ≡ true) l.parts
