use Rattle.sre_c.proofs.check.check_code.Goals as goal

pub invariant_of-code-in-Ok : goal.invariant_of-code-in-Ok
invariant_of-code-in-Ok c =
    let code = c.in-Ok.ensures.tree in
    let told = rw (c.in-Ok.ensures.words, c.in-Ok.ensures.uni, c.in-Some.ensures.table) at c.hints.ensures in
    record { known = λ _. ∣ record { tree = code.0; whole = code.1; hints = told code.0 code.1 } ∣₁ }
