-- Pairs of numbers one after the other, and bytes as pairs of hexadecimal digits.
use Rattle.sre_lines.proofs.Terms.{◌≡◌, ◌≢◌, ℕ, ◌+◌, ◌*◌, ◌/◌, ◌%◌, ◌<◌, false, List, [], ◌∷◌, ◌++◌, length, get_or}
use Rattle.sre_lines.proofs.Terms.{take, zero, suc, arith, refl, sym, ap, ◌∙◌, append_assoc, add-one, All, nat_tests}
use Rattle.sre_lines.proofs.Terms.{map, All-head, All-tail, digit_glyph, take-suc, hex_text, numbers_of, length-map}
use Rattle.sre_lines.proofs.Terms.{map-append, All-get_or}

numbers_of-append : (ps qs : List (ℕ × ℕ)) → numbers_of (ps ++ qs) ≡ numbers_of ps ++ numbers_of qs
numbers_of-append [] qs = refl
numbers_of-append (p ∷ ps) qs = rw (numbers_of-append ps qs) refl

numbers_even : (pairs : List (ℕ × ℕ)) → length (numbers_of pairs) ≡ 2 * length pairs
numbers_even [] = refl
numbers_even (p ∷ ps) = omega (arith, numbers_even ps)

-- an odd number of numbers is no list of pairs
pub odd_is_no_pairs : (numbers : List ℕ) → length numbers % 2 ≢ 0 → (pairs : List (ℕ × ℕ)) → numbers_of pairs ≢ numbers
odd_is_no_pairs numbers odd pairs is = odd (omega (arith, numbers_even pairs, ap length is))

-- one pair more
pub one_pair_more : (pairs : List (ℕ × ℕ)) (numbers : List ℕ) (a b i : ℕ) → numbers_of pairs ≡ take (2 * i) numbers
    → 2 * i + 1 < length numbers → get_or numbers (2 * i) 0 ≡ a → get_or numbers (2 * i + 1) 0 ≡ b
    → numbers_of (pairs ++ (a, b) ∷ []) ≡ take (2 * (i + 1)) numbers
one_pair_more pairs numbers a b i so_far within first second =
    let two_more : 2 * (i + 1) ≡ suc (suc (2 * i)) = omega arith in
    let here : 2 * i < length numbers = omega arith in
    let there : suc (2 * i) < length numbers = omega arith in
    let second_at : get_or numbers (suc (2 * i)) 0 ≡ b = rw add-one at second in
    rw (
      numbers_of-append pairs ((a, b) ∷ []),
      two_more,
      take-suc numbers (suc (2 * i)) 0 there,
      take-suc numbers (2 * i) 0 here,
      first,
      second_at,
      so_far,
      append_assoc,
    ) refl

-- the digits of bytes are pairs
abbrev digits_of : ℕ → ℕ × ℕ
digits_of b = (digit_glyph false (b / 16), digit_glyph false (b % 16))

hex_as_pairs : (bs : List ℕ) → hex_text bs ≡ numbers_of (map digits_of bs)
hex_as_pairs [] = refl
hex_as_pairs (b ∷ bs) = rw (hex_as_pairs bs) refl

pub odd_is_no_text : (digits : List ℕ) → length digits % 2 ≢ 0 → (bs : List ℕ) → hex_text bs ≢ digits
odd_is_no_text digits odd bs is = odd_is_no_pairs digits odd (map digits_of bs) (sym (hex_as_pairs bs) ∙ is)

pub one_byte_more : (bs digits : List ℕ) (b i : ℕ) → hex_text bs ≡ take (2 * i) digits → 2 * i + 1 < length digits
    → get_or digits (2 * i) 0 ≡ digit_glyph false (b / 16) → get_or digits (2 * i + 1) 0 ≡ digit_glyph false (b % 16)
    → hex_text (bs ++ b ∷ []) ≡ take (2 * (i + 1)) digits
one_byte_more bs digits b i so_far within high low =
    hex_as_pairs (bs ++ b ∷ [])
    ∙ ap numbers_of (map-append digits_of bs (b ∷ []))
    ∙ one_pair_more (map digits_of bs) digits _ _ i (sym (hex_as_pairs bs) ∙ so_far) within high low

pair_at : (bs : List ℕ) (i : ℕ) → i < length bs
    → (get_or (hex_text bs) (2 * i) 0 ≡ digit_glyph false (get_or bs i 0 / 16))
    × (get_or (hex_text bs) (2 * i + 1) 0 ≡ digit_glyph false (get_or bs i 0 % 16))
pair_at [] i within = absurd (omega arith)
pair_at (b ∷ bs) zero within = (refl, refl)
pair_at (b ∷ bs) (suc i) within =
    let below : i < length bs = omega arith in
    let low_place : 2 * suc i + 1 ≡ suc (suc (2 * i + 1)) = omega arith in
    let place : 2 * suc i ≡ suc (suc (2 * i)) = omega arith in
    rw (low_place, place) (pair_at bs i below)

-- two digits that no byte is written as, at the place of a pair
pub no_pair_is_no_text : (digits : List ℕ) (i : ℕ) → 2 * i + 1 < length digits
    → ((b : ℕ) → b < 256 → get_or digits (2 * i) 0 ≡ digit_glyph false (b / 16)
    → get_or digits (2 * i + 1) 0 ≢ digit_glyph false (b % 16))
    → (bs : List ℕ) → All (λ b. b < 256) bs → hex_text bs ≢ digits
no_pair_is_no_text digits i within none bs small is =
    let twice = numbers_even (map digits_of bs) in
    let below : i < length bs =
    omega (arith, ap length is, ap length (hex_as_pairs bs), twice, length-map bs digits_of) in
    let fits : get_or bs i 0 < 256 = All-get_or (λ b. b < 256) bs i 0 below small in
    let pair = pair_at bs i below in
    none (get_or bs i 0) fits (rw is at pair.0) (rw is at pair.1)

glyph_once : (d e : ℕ) → d < 16 → e < 16 → digit_glyph false d ≡ digit_glyph false e → d ≡ e
glyph_once d e small small' is = grind (arith, nat_tests)

byte_once : (b c : ℕ) → b < 256 → c < 256 → digit_glyph false (b / 16) ≡ digit_glyph false (c / 16)
    → digit_glyph false (b % 16) ≡ digit_glyph false (c % 16) → b ≡ c
byte_once b c small small' high low =
    let highs : b / 16 ≡ c / 16 = glyph_once (b / 16) (c / 16) (omega arith) (omega arith) high in
    let lows : b % 16 ≡ c % 16 = glyph_once (b % 16) (c % 16) (omega arith) (omega arith) low in
    omega (arith, highs, lows)

-- no other bytes are written as the same digits
pub bytes_once : (bs cs : List ℕ) → All (λ b. b < 256) bs → All (λ b. b < 256) cs → hex_text bs ≡ hex_text cs → bs ≡ cs
bytes_once [] [] small small' is = refl
bytes_once [] (c ∷ cs) small small' is = absurd (cc)
bytes_once (b ∷ bs) [] small small' is = absurd (cc)
bytes_once (b ∷ bs) (c ∷ cs) small small' is =
    let first = byte_once b c (All-head (λ b. b < 256) b bs small) (All-head (λ b. b < 256) c cs small') (cc) (cc) in
    let others = bytes_once bs cs (All-tail (λ b. b < 256) b bs small) (All-tail (λ b. b < 256) c cs small') (cc) in
    cc (first, others)
