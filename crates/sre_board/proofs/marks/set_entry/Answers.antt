use Rattle.sre_board.proofs.Terms.{◌≡◌, ℕ, ◌+◌, ◌-◌, ◌++◌, ◌∷◌, [], List, length, replicate, slice_set, Option, None}
use Rattle.sre_board.proofs.Terms.{rules, ap, sym, ◌∙◌, arith, lengthened, set-append_right}
use Rattle.sre_board.proofs.marks.set_entry.Goals as goal

-- the entry behind a list is set where it is appended
appended : (raw : List (Option ℕ)) (n : ℕ) (value : Option ℕ) → length raw ≡ n
    → raw ++ value ∷ [] ≡ slice_set (lengthened n raw) n value
appended raw n value e =
    let one : n + 1 - length raw ≡ 1 = omega (arith, e) in
    let none : n - n ≡ 0 = omega arith in
    let there = set-append_right raw (None ∷ []) n n value e (omega arith) in
    let here = there ∙ ap (λ k. raw ++ slice_set (None ∷ []) k value) none in
    sym (ap (λ k. slice_set (raw ++ replicate k None) n value) one ∙ here)

pub returns-then-len-entry : goal.returns-then-len-entry
returns-then-len-entry g c =
    c.in_ok-push.ensures.items ∙ appended c.args.raw.now.items c.args.entry _ (search rules)
