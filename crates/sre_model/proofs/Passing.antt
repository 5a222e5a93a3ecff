-- Which characters a test passes, in terms of a text that is read.
use Rattle.sre_model.proofs.Terms.{◌≡◌, ℕ, ◌<◌, ◌≤◌, Bool, true, false, nat_lt, refl, sym, ap, ◌∙◌, subst, arith}
use Rattle.sre_model.proofs.Terms.{nat_tests, StringCursor, Test, Plain, holds, Subject, passes, char_at}
use Rattle.sre_model.specs.Tree.{Literal}

-- a character that is read before the window's end decides
pub read_passes : (s : Subject) (t : Test) (p c : ℕ) (b : Bool) → p < s.end → c ≡ char_at s p → b ≡ holds s.table t c
    → passes s t p ≡ b
read_passes s t p c b l e h =
    let i : nat_lt p s.end ≡ true = grind (arith, nat_tests) in
    rw i (ap (λ x. holds s.table t x) (sym e) ∙ sym h)

pub past_end : (s : Subject) (t : Test) (p : ℕ) → s.end ≤ p → passes s t p ≡ false
past_end s t p l = let e : nat_lt p s.end ≡ false = grind (arith, nat_tests) in rw e refl

-- where a test passes, the character is none that it does not take
pub other_taken : (s : Subject) (t : Test) (v p : ℕ) → passes s t p ≡ true → holds s.table t v ≡ false
    → passes s (Literal Plain v) p ≡ false
other_taken s t v p taken unlike = grind (arith, nat_tests)

-- a cursor that stands at a position stands at its own
pub stands_at_own : (stands : StringCursor → ℕ → Type 0) (c : StringCursor) (p : ℕ) → c.position ≡ p → stands c p
    → stands c c.position
stands_at_own stands c p e h = subst (λ q. stands c q) (sym e) h
