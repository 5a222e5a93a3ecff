use Rattle.sre_lines.proofs.Terms.{◌≡◌, string_bytes, words_of, code_of, request_of, left_of}
use Rattle.sre_lines.proofs.Parts.{Written}
use Rattle.sre_lines.proofs.cases.walked.push_left.Given as goal

-- what is written and what is still to come are the text of what was left
abbrev pub invariant-matches : goal.invariant-matches
invariant-matches g l =
    (code_of (request_of l.matches) ≡ code_of (request_of l.fn.matches))
    × Written (words_of (code_of (request_of l.fn.matches))) (λ t. left_of l.fn.matches t)
    (string_bytes l.initial.answer) (string_bytes l.answer) l.first (λ t. left_of l.matches t)
