-- Sets of ASCII characters: bits of a word, what a set has half by half, and the sets of the categories.
use Rattle.sre_code.proofs.Terms.{◌≡◌, ℕ, ◌+◌, ◌-◌, ◌*◌, ◌/◌, ◌%◌, ◌^◌, ◌<◌, ◌≤◌, Bool, false, not, ◌&&◌, ◌||◌}
use Rattle.sre_code.proofs.Terms.{if◌then◌else◌, nat_eq, nat_lt, List, slice_index, bit_and, bit_or, refl, ap, sym, ◌∙◌}
use Rattle.sre_code.proofs.Terms.{inl, inr, arith, cases_lt, lt-ltb, le-ltb, nat_tests, AsciiSet, true}
use Rattle.sre_code.proofs.Terms.{cases_eq, eq-eqb, ne_eqb, agree_below, agree_below_at}
use Rattle.std.specs.Int.{bit_at, w64}
use Rattle.std.proofs.lemmas.Nat.{one_shl, or_comm, or_shifted, shl_whole}
use Rattle.std.proofs.lemmas.Nat.Bits.{bit_at-lt, bit_at_or, bit_at_and, bit_at_not, bit_at-pow_same, bit_at-pow_other}
use Rattle.std.proofs.lemmas.Nat.Bits.{bit_at_ones, bit_at_ones_above, bit_at_cat_low, bit_at_cat_high, bit_at-zero}
use Prim.Native.Nat.{min, max}
use Rattle.sre_code.specs.AsciiSet.{contains}

-- Whether one bit of a word is set.

either_bit : (x y : ℕ) → x < 2 → y < 2 → nat_eq (max x y) 1 ≡ (nat_eq x 1 || nat_eq y 1)
either_bit x y h k = grind (arith, nat_tests)

first_bit_alone : (x y : ℕ) → x < 2 → y < 2 → nat_eq (min x (1 - y)) 1 ≡ (nat_eq x 1 && not (nat_eq y 1))
first_bit_alone x y h k = grind (arith, nat_tests)

other_bit : (x : ℕ) → x < 2 → nat_eq (1 - x) 1 ≡ not (nat_eq x 1)
other_bit x h = grind (arith, nat_tests)

-- `a | b`
pub set_in_either : (a b k : ℕ) → nat_eq (bit_at (bit_or a b) k) 1 ≡ (nat_eq (bit_at a k) 1 || nat_eq (bit_at b k) 1)
set_in_either a b k = rw (bit_at_or a b k) (either_bit (bit_at a k) (bit_at b k) (bit_at-lt a k) (bit_at-lt b k))

-- `!b`
pub set_in_not : (b k : ℕ) → b < 2 ^ 64 → k < 64
    → nat_eq (bit_at (18446744073709551615 - b) k) 1 ≡ not (nat_eq (bit_at b k) 1)
set_in_not b k h l = ap (λ x. nat_eq x 1) (bit_at_not w64 b k h l) ∙ other_bit (bit_at b k) (bit_at-lt b k)

-- `a & !b`
pub set_in_first_alone : (a b k : ℕ) → b < 2 ^ 64 → k < 64
    → nat_eq (bit_at (bit_and a (18446744073709551615 - b)) k) 1
    ≡ (nat_eq (bit_at a k) 1 && not (nat_eq (bit_at b k) 1))
set_in_first_alone a b k h l =
    ap (λ x. nat_eq x 1) (bit_at_and a (18446744073709551615 - b) k ∙ ap (min (bit_at a k)) (bit_at_not w64 b k h l))
    ∙ first_bit_alone (bit_at a k) (bit_at b k) (bit_at-lt a k) (bit_at-lt b k)

-- `1 << n`
pub set_in_one : (n k : ℕ) → n < 64 → nat_eq (bit_at (1 * 2 ^ n % 18446744073709551616) k) 1 ≡ nat_eq k n
set_in_one n k h =
    ap (λ x. nat_eq (bit_at x k) 1) (one_shl n 64 h)
    ∙ elim (cases_eq k n) [
      | inl e ↦ rw (e, bit_at-pow_same n, eq-eqb n n refl) refl
      | inr d ↦ rw (bit_at-pow_other n k d, ne_eqb k n d) refl
    ]

-- `(1 << n) - 1`
pub set_below : (n k : ℕ) → n < 64 → nat_eq (bit_at (1 * 2 ^ n % 18446744073709551616 - 1) k) 1 ≡ nat_lt k n
set_below n k h =
    ap (λ x. nat_eq (bit_at (x - 1) k) 1) (one_shl n 64 h)
    ∙ elim (cases_lt k n) [
      | inl l ↦ rw (bit_at_ones n k l, lt-ltb k n l) refl
      | inr m ↦ rw (bit_at_ones_above n k m, le-ltb k n m) refl
    ]

-- the greatest word has each bit
pub set_in_all : (k : ℕ) → k < 64 → nat_eq (bit_at 18446744073709551615 k) 1 ≡ true
set_in_all k h = ap (λ x. nat_eq x 1) (bit_at_ones 64 k h)

-- and 0 none
pub set_in_none : (k : ℕ) → nat_eq (bit_at 0 k) 1 ≡ false
set_in_none k = ap (λ x. nat_eq x 1) (bit_at-zero k)

-- `a | (b << 32)`
pub bit_of_two : (a b n : ℕ) → a < 2 ^ 32 → b < 2 ^ 32 → n ≡ bit_or a (b * 4294967296 % 18446744073709551616)
    → (k : ℕ) → k < 64 → bit_at n k ≡ bit_at (if nat_lt k 32 then a else b) (k % 32)
bit_of_two a b n h l e k m =
    let whole : n ≡ b * 2 ^ 32 + a =
    e ∙ ap (bit_or a) (shl_whole b 32 32 64 l (omega arith)) ∙ or_comm a (b * 2 ^ 32) ∙ or_shifted b 32 a h
    in
    elim (cases_lt k 32) [
      | inl low ↦
          let place : k % 32 ≡ k = omega arith in
          rw (whole, lt-ltb k 32 low, place) (bit_at_cat_low b 32 a k low)
      | inr high ↦
          let place : k % 32 ≡ k - 32 = omega arith in
          rw (whole, le-ltb k 32 high, place) (bit_at_cat_high b 32 a k h high)
    ]

-- What a set has, half by half.

pub in_low : (s : AsciiSet) (k : ℕ) → k < 64 → contains s k ≡ nat_eq (bit_at s.low k) 1
unfolding contains
in_low s k h = rw (lt-ltb k 64 h) refl

pub in_high : (s : AsciiSet) (k : ℕ) → k < 64 → contains s (k + 64) ≡ nat_eq (bit_at s.high k) 1
unfolding contains
in_high s k h =
    let back : k + 64 - 64 ≡ k = omega arith in
    rw (le-ltb (k + 64) 64 (omega arith), lt-ltb (k + 64) 128 (omega arith), back) refl

-- no set has a character past ASCII
pub past_ascii : (s : AsciiSet) (c : ℕ) → 128 ≤ c → contains s c ≡ false
unfolding contains
past_ascii s c h = rw (le-ltb c 64 (omega arith), le-ltb c 128 h) refl

-- a set has the characters of a test if each half does, and the test takes none past ASCII
pub by_halves : (s : AsciiSet) (f : ℕ → Bool) → ((k : ℕ) → k < 64 → nat_eq (bit_at s.low k) 1 ≡ f k)
    → ((k : ℕ) → k < 64 → nat_eq (bit_at s.high k) 1 ≡ f (k + 64)) → ((c : ℕ) → 128 ≤ c → f c ≡ false)
    → (c : ℕ) → contains s c ≡ f c
by_halves s f low high past c = elim (cases_lt c 64) [
  | inl l ↦ in_low s c l ∙ low c l
  | inr m ↦ elim (cases_lt c 128) [
    | inl l ↦
        let k : (c - 64) + 64 ≡ c = omega arith in
        ap (contains s) (sym k)
        ∙ in_high s (c - 64) (omega arith)
        ∙ high (c - 64) (omega arith)
        ∙ ap f k
    | inr n ↦ past_ascii s c n ∙ sym (past c n)
  ]
]

-- the same of a test that is asked of ASCII characters alone
by_ascii : (s : AsciiSet) (f : ℕ → Bool) → ((k : ℕ) → k < 64 → nat_eq (bit_at s.low k) 1 ≡ f k)
    → ((k : ℕ) → k < 64 → nat_eq (bit_at s.high k) 1 ≡ f (k + 64)) → (c : ℕ) → contains s c ≡ (nat_lt c 128 && f c)
by_ascii s f low high =
    by_halves s (λ c. nat_lt c 128 && f c) (λ k l. rw (lt-ltb k 128 (omega arith)) (low k l))
    (λ k l. rw (lt-ltb (k + 64) 128 (omega arith)) (high k l)) (λ c m. rw (le-ltb c 128 m) refl)

pub in_union : (s a b : AsciiSet) → s.low ≡ bit_or a.low b.low → s.high ≡ bit_or a.high b.high
    → (c : ℕ) → contains s c ≡ (contains a c || contains b c)
in_union s a b low high =
    by_halves s (λ c. contains a c || contains b c)
    (λ k h. rw (low, in_low a k h, in_low b k h) (set_in_either a.low b.low k))
    (λ k h. rw (high, in_high a k h, in_high b k h) (set_in_either a.high b.high k))
    (λ c h. rw (past_ascii a c h, past_ascii b c h) refl)

pub in_difference : (s a b : AsciiSet) → b.low < 2 ^ 64 → b.high < 2 ^ 64
    → s.low ≡ bit_and a.low (18446744073709551615 - b.low) → s.high ≡ bit_and a.high (18446744073709551615 - b.high)
    → (c : ℕ) → contains s c ≡ (contains a c && not (contains b c))
in_difference s a b fits_low fits_high low high =
    by_halves s (λ c. contains a c && not (contains b c))
    (λ k h. rw (low, in_low a k h, in_low b k h) (set_in_first_alone a.low b.low k fits_low h))
    (λ k h. rw (high, in_high a k h, in_high b k h) (set_in_first_alone a.high b.high k fits_high h))
    (λ c h. rw (past_ascii a c h) refl)

pub in_complement : (s a : AsciiSet) → a.low < 2 ^ 64 → a.high < 2 ^ 64 → s.low ≡ 18446744073709551615 - a.low
    → s.high ≡ 18446744073709551615 - a.high → (c : ℕ) → contains s c ≡ (nat_lt c 128 && not (contains a c))
in_complement s a fits_low fits_high low high =
    by_ascii s (λ c. not (contains a c)) (λ k h. rw (low, in_low a k h) (set_in_not a.low k fits_low h))
    (λ k h. rw (high, in_high a k h) (set_in_not a.high k fits_high h))

-- the bit that is read, in either half
pub read_low : (s : AsciiSet) (c half : ℕ) → c < 64 → half ≡ s.low → nat_eq (half / 2 ^ (c % 64) % 2) 1 ≡ contains s c
read_low s c half h e =
    let place : c % 64 ≡ c = omega arith in
    rw (place, e) (sym (in_low s c h))

pub read_high : (s : AsciiSet) (c half : ℕ) → 64 ≤ c → c < 128 → half ≡ s.high
    → nat_eq (half / 2 ^ (c % 64) % 2) 1 ≡ contains s c
read_high s c half h l e =
    let place : c % 64 ≡ c - 64 = omega arith in
    let back : (c - 64) + 64 ≡ c = omega arith in
    rw (place, e) (sym (in_high s (c - 64) (omega arith)) ∙ ap (contains s) back)

-- one bit
pub one_in_low : (s : AsciiSet) (ch : ℕ) → ch < 64 → s.low ≡ 1 * 2 ^ ch % 18446744073709551616 → s.high ≡ 0
    → (c : ℕ) → contains s c ≡ (nat_lt c 128 && nat_eq c ch)
one_in_low s ch h low high =
    by_ascii s (λ c. nat_eq c ch) (λ k l. rw (low, set_in_one ch k h) refl)
    (λ k l. rw (high, set_in_none k) (grind (arith, nat_tests)))

pub one_in_high : (s : AsciiSet) (ch : ℕ) → 64 ≤ ch → ch < 128 → s.low ≡ 0
    → s.high ≡ 1 * 2 ^ (ch - 64) % 18446744073709551616 → (c : ℕ) → contains s c ≡ (nat_lt c 128 && nat_eq c ch)
one_in_high s ch h h2 low high =
    by_ascii s (λ c. nat_eq c ch) (λ k l. rw (low, set_in_none k) (grind (arith, nat_tests)))
    (λ k l. rw (high, set_in_one (ch - 64) k (omega arith)) (grind (arith, nat_tests)))

-- all bits up to one
pub below_in_low : (s : AsciiSet) (end : ℕ) → end < 64 → s.low ≡ 1 * 2 ^ end % 18446744073709551616 - 1 → s.high ≡ 0
    → (c : ℕ) → contains s c ≡ (nat_lt c 128 && nat_lt c end)
below_in_low s end h low high =
    by_ascii s (λ c. nat_lt c end) (λ k l. rw (low, set_below end k h) refl)
    (λ k l. rw (high, set_in_none k) (grind (arith, nat_tests)))

pub below_in_high : (s : AsciiSet) (end : ℕ) → 64 ≤ end → end < 128 → s.low ≡ 18446744073709551615
    → s.high ≡ 1 * 2 ^ (end - 64) % 18446744073709551616 - 1 → (c : ℕ) → contains s c ≡ (nat_lt c 128 && nat_lt c end)
below_in_high s end h h2 low high =
    by_ascii s (λ c. nat_lt c end) (λ k l. rw (low, set_in_all k l) (grind (arith, nat_tests)))
    (λ k l. rw (high, set_below (end - 64) k (omega arith)) (grind (arith, nat_tests)))

pub below_all : (s : AsciiSet) (end : ℕ) → 128 ≤ end → s.low ≡ 18446744073709551615 → s.high ≡ 18446744073709551615
    → (c : ℕ) → contains s c ≡ (nat_lt c 128 && nat_lt c end)
below_all s end h low high =
    by_ascii s (λ c. nat_lt c end) (λ k l. rw (low, set_in_all k l) (grind (arith, nat_tests)))
    (λ k l. rw (high, set_in_all k l) (grind (arith, nat_tests)))

-- a half of two words
half_of_words : (words : List ℕ) (i n k c : ℕ)
    → bit_at n k ≡ bit_at (if nat_lt k 32 then slice_index words i else slice_index words (i + 1)) (k % 32)
    → k < 64 → c / 32 ≡ i + k / 32 → c % 32 ≡ k % 32
    → nat_eq (bit_at n k) 1 ≡ nat_eq (slice_index words (c / 32) / 2 ^ (c % 32) % 2) 1
half_of_words words i n k c e h word place = elim (cases_lt k 32) [
  | inl l ↦
      let at : c / 32 ≡ i = omega arith in
      rw (e, lt-ltb k 32 l, at, place) refl
  | inr m ↦
      let at : c / 32 ≡ i + 1 = omega arith in
      rw (e, le-ltb k 32 m, at, place) refl
]

-- both halves of four words
pub in_four_words : (s : AsciiSet) (words : List ℕ)
    → ((k : ℕ) → k < 64
    → bit_at s.low k ≡ bit_at (if nat_lt k 32 then slice_index words 0 else slice_index words 1) (k % 32))
    → ((k : ℕ) → k < 64
    → bit_at s.high k ≡ bit_at (if nat_lt k 32 then slice_index words 2 else slice_index words 3) (k % 32))
    → (c : ℕ) → contains s c ≡ (nat_lt c 128 && nat_eq (slice_index words (c / 32) / 2 ^ (c % 32) % 2) 1)
in_four_words s words low high =
    by_ascii s (λ c. nat_eq (slice_index words (c / 32) / 2 ^ (c % 32) % 2) 1)
    (λ k l. half_of_words words 0 s.low k k (low k l) l (omega arith) refl)
    (λ k l. half_of_words words 2 s.high k (k + 64) (high k l) l (omega arith) (omega arith))

-- The sets of the categories, by computation over ASCII.

-- a set that agrees with a test in ASCII
pub by_each : (s : AsciiSet) (f : ℕ → Bool) → agree_below (contains s) f 128 ≡ true
    → (c : ℕ) → contains s c ≡ (nat_lt c 128 && f c)
by_each s f agree c = elim (cases_lt c 128) [
  | inl l ↦ rw (lt-ltb c 128 l) (agree_below_at (contains s) f 128 c agree l)
  | inr m ↦ rw (le-ltb c 128 m) (past_ascii s c m)
]

-- and with the opposite of one
pub by_none : (s : AsciiSet) (f : ℕ → Bool) → agree_below (contains s) f 128 ≡ true
    → (c : ℕ) → (nat_lt c 128 && not (contains s c)) ≡ (nat_lt c 128 && not (f c))
by_none s f agree c = elim (cases_lt c 128) [
  | inl l ↦ rw (agree_below_at (contains s) f 128 c agree l) refl
  | inr m ↦ rw (le-ltb c 128 m) refl
]
