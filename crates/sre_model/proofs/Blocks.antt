-- Bits of sets: where the words have a character's bit.
use Rattle.sre_model.proofs.Terms.{ℕ, zero, suc, ◌+◌, ◌*◌, ◌/◌, ◌%◌, ◌≡◌, ◌<◌, ◌≤◌, List, [], ◌∷◌, length, take}
use Rattle.sre_model.proofs.Terms.{slice_index, slice_range, refl, sym, ◌∙◌, ap, arith, flat_map, length-take-le}
use Rattle.sre_model.proofs.Terms.{bytes_of, BytesBelow, BlocksBelow, ◌^◌, get_or-flat_map}
use Rattle.sre_model.proofs.StandingWords.{part_at, range_long}

-- what holds of each number below four
each_byte : (P : ℕ → Type 0) → P 0 → P 1 → P 2 → P 3 → (r : ℕ) → r < 4 → P r
each_byte P a b c d zero l = a
each_byte P a b c d (suc zero) l = b
each_byte P a b c d (suc (suc zero)) l = c
each_byte P a b c d (suc (suc (suc zero))) l = d
each_byte P a b c d (suc (suc (suc (suc r)))) l = absurd (omega arith)

byte_of : (w r : ℕ) → r < 4 → w / 2 ^ (8 * r) % 256 ≡ slice_index (bytes_of w) r
byte_of w r l = each_byte (λ k. w / 2 ^ (8 * k) % 256 ≡ slice_index (bytes_of w) k) (omega arith) refl refl refl r l

byte_below : (count w r : ℕ) → BytesBelow count w → r < 4 → slice_index (bytes_of w) r < count
byte_below count w r b l = each_byte (λ k. slice_index (bytes_of w) k < count) b.0 b.1 b.2 b.3 r l

four_each : (xs : List ℕ) → length (flat_map bytes_of xs) ≡ 4 * length xs
four_each [] = refl
four_each (x ∷ xs) = omega (arith, four_each xs)

-- a block's number: byte r of word q of the numbers
number_at : (xs : List ℕ) (q r : ℕ) → q < length xs → r < 4
    → slice_index (flat_map bytes_of xs) (4 * q + r) ≡ slice_index xs q / 2 ^ (8 * r) % 256
number_at xs q r l k =
    let e : length (flat_map bytes_of (take q xs)) ≡ 4 * q =
    four_each (take q xs) ∙ ap (λ n. 4 * n) (length-take-le q xs (omega arith)) in
    let f : slice_index (flat_map bytes_of xs) (length (flat_map bytes_of (take q xs)) + r)
    ≡ slice_index (bytes_of (slice_index xs q)) r = get_or-flat_map bytes_of xs q r 0 0 l k in
    ap (λ n. slice_index (flat_map bytes_of xs) (n + r)) (sym e) ∙ f ∙ sym (byte_of (slice_index xs q) r k)

pub block_number : (ws : List ℕ) (i c : ℕ) → c < 65536 → i + 66 ≤ length ws
    → slice_index ws (i + 2 + c / 256 / 4) / 2 ^ (8 * (c / 256 % 4)) % 256
    ≡ slice_index (flat_map bytes_of (slice_range ws (i + 2) (i + 66))) (c / 256)
block_number ws i c l room =
    let q : ℕ = c / 256 / 4 in
    let xs : List ℕ = slice_range ws (i + 2) (i + 66) in
    let there : q < length xs = omega (arith, range_long ws (i + 2) (i + 66) room) in
    let split : 4 * q + c / 256 % 4 ≡ c / 256 = omega arith in
    let e : slice_index xs q ≡ slice_index ws (i + 2 + q) = part_at ws (i + 2) (i + 66) q (omega arith) in
    sym (ap (λ n. slice_index (flat_map bytes_of xs) n) (sym split) ∙ number_at xs q (c / 256 % 4) there (omega arith)
    ∙ ap (λ w. w / 2 ^ (8 * (c / 256 % 4)) % 256) e)

pub block_below : (ws : List ℕ) (i c count : ℕ) → c < 65536
    → i + 66 ≤ length ws → BlocksBelow count (slice_range ws (i + 2) (i + 66))
    → slice_index ws (i + 2 + c / 256 / 4) / 2 ^ (8 * (c / 256 % 4)) % 256 < count
block_below ws i c count l room b =
    let q : ℕ = c / 256 / 4 in
    let xs : List ℕ = slice_range ws (i + 2) (i + 66) in
    let there : q < length xs = omega (arith, range_long ws (i + 2) (i + 66) room) in
    let e : slice_index xs q ≡ slice_index ws (i + 2 + q) = part_at ws (i + 2) (i + 66) q (omega arith) in
    let below : slice_index (bytes_of (slice_index xs q)) (c / 256 % 4) < count =
    byte_below count (slice_index xs q) (c / 256 % 4) (b q there) (omega arith) in
    omega (arith, byte_of (slice_index xs q) (c / 256 % 4) (omega arith), ap (λ w. w / 2 ^ (8 * (c / 256 % 4)) % 256) e)
