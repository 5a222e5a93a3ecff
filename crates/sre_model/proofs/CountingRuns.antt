-- What a single-character repeat comes to.
use Rattle.sre_model.proofs.Terms.{ℕ, ◌+◌, ◌≡◌, Bool, true, false, not, refl, sym, ◌∙◌, ap, arith}
use Rattle.sre_model.proofs.Terms.{StringCursor, Test, passes, run_length, TestStands, beq, Ended}
use Rattle.sre_model.specs.Runs.{Run}
use Rattle.sre_model.proofs.Longest.{run_has}

pub taken_length : (r : Run) (i most count j : ℕ) (start cursor : StringCursor) (t : Test)
    → Ended r i true most start cursor count → TestStands r.words i j t
    → count ≡ run_length r.subject t most start.position
taken_length r i most count j start cursor t e s =
    sym (run_has r.subject t most start.position count e.counted.within
    (λ k l. e.counted.each j (start.position + k) t s (omega arith) (omega (arith, e.counted.position)))
    (λ m. ap (λ q. passes r.subject t q) (sym e.counted.position) ∙ e.ends m j t s))

-- what is not unequal is the same
pub beq_same : (a b : Bool) → not (beq a b) ≡ false → a ≡ b
beq_same true true e = refl
beq_same true false e = e
beq_same false true e = sym e
beq_same false false e = refl
