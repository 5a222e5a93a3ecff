use Rattle.sre_lines.proofs.Terms.{◌≡◌, ◌++◌, ◌∷◌, take, string_bytes, flat_map, number_text}
use Rattle.sre_lines.proofs.answer.push_marks.Given as goal

-- the marks so far are appended
abbrev pub invariant-loop-mark : goal.invariant-loop-mark
invariant-loop-mark g l =
    string_bytes l.answer ≡ string_bytes l.initial.answer ++ flat_map (λ m. 44 ∷ number_text m)
    (take l.mark-index l.others)
