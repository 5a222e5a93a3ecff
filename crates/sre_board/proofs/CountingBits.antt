-- How many bits are set: one more where a clear bit is set, and none more where zero words follow.
use Rattle.sre_board.proofs.Terms.{◌≡◌, ℕ, zero, suc, ◌+◌, ◌*◌, ◌^◌, ◌%◌, ◌<◌, ◌≤◌, List, ◌++◌, length, replicate}
use Rattle.sre_board.proofs.Terms.{get_or, slice_set, refl, ap, ◌∙◌, arith, w64, ◌≢◌, inl, inr, bit_or, bit_at, sum_by}
use Rattle.sre_board.proofs.Terms.{cases_eq, bit_at_set_same, bit_at_set_other, bit_at-zero}
use Rattle.std.proofs.lemmas.List.Sums.{sum_by-append, sum_by-set}
use Rattle.std.proofs.lemmas.List.Folds.{sum_by-replicate}
use Rattle.sre_board.specs.Failures.{ones_below}

same_below : (n v w : ℕ) → ((i : ℕ) → i < n → bit_at v i ≡ bit_at w i) → ones_below n v ≡ ones_below n w
unfolding ones_below
same_below zero v w h = refl
same_below (suc n) v w h =
    omega (arith, same_below n v w (λ i l. h i (omega (arith, l))), h n (omega arith))

-- words that differ in one bit
one_apart : (n b v w : ℕ) → b < n → ((i : ℕ) → i ≢ b → bit_at v i ≡ bit_at w i)
    → ones_below n v + bit_at w b ≡ ones_below n w + bit_at v b
unfolding ones_below
one_apart zero b v w l h = absurd (omega (arith, l))
one_apart (suc n) b v w l h = elim (cases_eq n b) [
  | inl e ↦
      let below = same_below n v w (λ i k. h i (λ s. omega (arith, k, s, e))) in
      omega (arith, below, ap (λ i. bit_at v i) e, ap (λ i. bit_at w i) e)
  | inr apart ↦ omega (arith, one_apart n b v w (omega (arith, l, less n b l apart)) h, h n apart)
]
  where
    less : (n b : ℕ) → b < suc n → n ≢ b → b < n
    less n b l apart = grind (arith, l, apart)

-- a word's bit is set
pub one_set : (n w bit : ℕ) → n ≤ 64 → bit < n
    → ones_below n (bit_or w ((1 * 2 ^ bit) % 2 ^ 64)) + bit_at w bit ≡ ones_below n w + 1
one_set n w bit few small =
    let in_word : bit < 64 = omega (arith, few, small) in
    let v : ℕ = bit_or w ((1 * 2 ^ bit) % 2 ^ 64) in
    one_apart n bit v w small (λ i apart. bit_at_set_other w64 w bit in_word i apart)
    ∙ ap (λ b. ones_below n w + b) (bit_at_set_same w64 w bit in_word)

-- a word of a list is another
pub sum_set : (f : ℕ → ℕ) (xs : List ℕ) (i y b : ℕ) → i < length xs → f y + b ≡ f (get_or xs i 0) + 1
    → sum_by f (slice_set xs i y) + b ≡ sum_by f xs + 1
sum_set f xs i y b l e = omega (arith, sum_by-set f xs i y 0 l, e)

zero_below : (n : ℕ) → ones_below n 0 ≡ 0
unfolding ones_below
zero_below zero = refl
zero_below (suc n) = omega (arith, zero_below n, bit_at-zero n)

-- words of noughts behind others
pub sum_filled : (f : ℕ → ℕ) (xs : List ℕ) (n : ℕ) → f 0 ≡ 0 → sum_by f (xs ++ replicate n 0) ≡ sum_by f xs
sum_filled f xs n e =
    omega (arith, sum_by-append f xs (replicate n 0), sum_by-replicate f n 0, ap (λ m. n * m) e)

pub none_in_zero : ones_below 64 0 ≡ 0
none_in_zero = zero_below 64
