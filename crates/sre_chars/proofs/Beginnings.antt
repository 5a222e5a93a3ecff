-- Where characters begin in bytes, and how many begin before a position.
use Rattle.sre_chars.proofs.Terms.{◌≡◌, ℕ, ◌+◌, ◌-◌, ◌/◌, ◌<◌, ◌≤◌, true, false, inl, inr, refl, ap, sym, ◌∙◌, subst}
use Rattle.sre_chars.proofs.Terms.{arith, List, [], ◌∷◌, ◌++◌, length, take, drop, get_or, count_by, length-append}
use Rattle.sre_chars.proofs.Terms.{take-add, take-append_seam, cases_lt, lt-ltb, le-ltb, nat_tests, take-append-drop}
use Rattle.sre_chars.proofs.Terms.{length-take-le, encodes-chars, chars, IsUtf8, IsCharBoundary, encodes, next}
use Rattle.sre_chars.proofs.Terms.{begins_char, begun, offset_of, cond, take-take, sum_by-append, sum_by-take-drop}
use Rattle.sre_chars.proofs.Terms.{count_by_more_yes, chars-append, chars_from_encodes, IsUtf8-take}
use lib.Utf8.{encode}
use Rattle.sre_chars.proofs.TextPlaces.{length-chars_le, offset_boundary, take_offset}

-- a block more
pub begun_block : (bs : List ℕ) (i n : ℕ) → begun bs (i + n) ≡ begun bs i + count_by begins_char (take n (drop i bs))
begun_block bs i n =
    ap (count_by begins_char) (take-add i n bs)
    ∙ sum_by-append (λ b. cond (begins_char b) 1 0) (take i bs) (take n (drop i bs))

-- a block less
pub begun_block_back : (bs : List ℕ) (i n : ℕ) → n ≤ i
    → begun bs i ≡ begun bs (i - n) + count_by begins_char (drop (i - n) (take i bs))
begun_block_back bs i n h =
    let less : i - n ≤ i = omega arith in
    let block = drop (i - n) (take i bs) in
    sym (sum_by-take-drop (λ b. cond (begins_char b) 1 0) (take i bs) (i - n))
    ∙ ap (λ front. count_by begins_char front + count_by begins_char block) (take-take (i - n) i bs less)

-- a first block, and what begins after it
pub first_block : (bs : List ℕ) (n : ℕ)
    → count_by begins_char bs ≡ count_by begins_char (take n bs) + count_by begins_char (drop n bs)
first_block bs n = sym (sum_by-take-drop (λ b. cond (begins_char b) 1 0) bs n)

-- the first byte of a character begins it, and no later one does
first_byte : (b : ℕ) → 192 ≤ b → begins_char b ≡ true
first_byte b h = grind (arith, nat_tests)

later_byte : (c : ℕ) → begins_char (next c) ≡ false
later_byte c = within (next c) (omega arith) (omega arith)
  where
    within : (b : ℕ) → 128 ≤ b → b < 192 → begins_char b ≡ false
    within b h l = grind (arith, nat_tests)

ascii_byte : (b : ℕ) → b < 128 → begins_char b ≡ true
ascii_byte b h = grind (arith, nat_tests)

begins_once : (c : ℕ) → count_by begins_char (encode c) ≡ 1
unfolding encode
begins_once c = elim (cases_lt c 128) [
  | inl l ↦ rw (lt-ltb c 128 l, ascii_byte c l) refl
  | inr h ↦ elim (cases_lt c 2048) [
    | inl l ↦
        let lead = first_byte (192 + c / 64) (omega arith) in
        rw (le-ltb c 128 h, lt-ltb c 2048 l, lead, later_byte c) refl
    | inr h2 ↦ elim (cases_lt c 65536) [
      | inl l ↦
          let lead = first_byte (224 + c / 4096) (omega arith) in
          rw (le-ltb c 128 h, le-ltb c 2048 h2, lt-ltb c 65536 l, lead, later_byte (c / 64), later_byte c) refl
      | inr h3 ↦
          let lead = first_byte (240 + c / 262144) (omega arith) in
          let second = later_byte (c / 4096) in
          rw (le-ltb c 128 h, le-ltb c 2048 h2, le-ltb c 65536 h3, lead, second, later_byte (c / 64), later_byte c) refl
    ]
  ]
]

-- so each character of a text begins once
pub begins_each : (cs : List ℕ) → count_by begins_char (encodes cs) ≡ length cs
begins_each [] = refl
begins_each (c ∷ cs) =
    omega (arith, sum_by-append (λ b. cond (begins_char b) 1 0) (encode c) (encodes cs), begins_once c, begins_each cs)

pub count_chars : (bs : List ℕ) → IsUtf8 bs → count_by begins_char bs ≡ length (chars bs)
count_chars bs u = ap (count_by begins_char) (sym (encodes-chars bs u)) ∙ begins_each (chars bs)

-- what a place p of a text says of its bytes before the offset o
pub record IsPlace (text bs : List ℕ) (o p : ℕ) : Type 0 where
  pub in_bounds : o ≤ length bs
  pub boundary : IsCharBoundary bs o
  pub begun_before : begun bs o ≡ p
  pub begun_in_all : count_by begins_char bs ≡ length (chars text)
  pub few : length (chars text) ≤ length bs

pub place_in : (text bs : List ℕ) (o p : ℕ) → bs ≡ text → IsUtf8 bs → o ≡ offset_of text p → p ≤ length (chars text)
    → IsPlace text bs o p
place_in text bs o p same u e h =
    rw (e, ← same)
    (record {
      in_bounds = (offset_boundary bs p u).0;
      boundary = offset_boundary bs p u;
      begun_before =
          ap (count_by begins_char) (take_offset bs p u)
          ∙ begins_each (take p (chars bs))
          ∙ length-take-le p (chars bs) (rw (← same) at h);
      begun_in_all = count_chars bs u;
      few = length-chars_le bs u;
    })

-- where p characters begin before a cut, it is the place p
pub place_at : (text bs : List ℕ) (o p : ℕ) → bs ≡ text → IsUtf8 bs → IsCharBoundary bs o → begun bs o ≡ p
    → (o ≡ offset_of text p) × (p ≤ length (chars text))
place_at text bs o p same u b e =
    let front = IsUtf8-take bs o u b in
    let cs = front.0 in
    let rest = chars (drop o bs) in
    let whole : chars bs ≡ cs ++ rest =
    ap chars (sym (take-append-drop o bs))
    ∙ chars-append (take o bs) (drop o bs) front
    ∙ ap (λ t. t ++ rest) (sym (chars_from_encodes cs (take o bs) front front.1.1))
    in
    let many : p ≡ length cs = sym e ∙ ap (count_by begins_char) (sym front.1.1) ∙ begins_each cs in
    let first : take p (chars bs) ≡ cs = rw (many, whole) (take-append_seam cs rest) in
    rw (← same) (
      sym (length-take-le o bs b.0) ∙ ap length (sym front.1.1) ∙ ap (λ t. length (encodes t)) (sym first),
      omega (arith, ap length whole, length-append cs rest, many),
    )

-- behind a place, where a character begins or the text ends, is that of as many characters more as begin between
pub place_behind : (text bs : List ℕ) (from p to n : ℕ) → bs ≡ text → IsUtf8 text → from ≡ offset_of text p
    → p ≤ length (chars text) → from ≤ to → IsCharBoundary text to
    → n ≡ count_by begins_char (take (to - from) (drop from bs))
    → (to ≡ offset_of text (p + n)) × (p + n ≤ length (chars text)) × (length (chars text) ≤ length bs)
place_behind text bs from p to n same u at l on boundary counted =
    let own : IsUtf8 bs = subst IsUtf8 (sym same) u in
    let place = place_in text bs from p same own at l in
    let whole : from + (to - from) ≡ to = omega (arith, on) in
    let passed = ap (begun bs) (sym whole) ∙ begun_block bs from (to - from) in
    let there = place_at text bs to (p + n) same own (subst (λ b. IsCharBoundary b to) (sym same) boundary)
    (omega (arith, passed, place.begun_before, counted)) in
    (there.0, there.1, place.few)

-- no fewer begin before a later offset, and no more than in all bytes
pub begun_grows : (bs : List ℕ) (i j : ℕ) → i ≤ j → begun bs i ≤ begun bs j
begun_grows bs i j h =
    let there : i + (j - i) ≡ j = omega (arith, h) in
    omega (arith, begun_block bs i (j - i), ap (begun bs) there)

begun_of_all : (bs : List ℕ) (i : ℕ) → begun bs i ≤ count_by begins_char bs
begun_of_all bs i = omega (arith, first_block bs i)

-- a character begins where a cut is before the end
begins_at : (bs : List ℕ) (o : ℕ) → IsCharBoundary bs o → o < length bs → begins_char (get_or bs o 0) ≡ true
begins_at bs o b h = elim (cases_lt (get_or bs o 0) 128) [
  | inl l ↦ ascii_byte (get_or bs o 0) l
  | inr later ↦ first_byte (get_or bs o 0) (b.1 h later)
]

pub some_begin : (bs : List ℕ) (o n : ℕ) → IsCharBoundary bs o → 0 < n → o + n ≤ length bs
    → begun bs o < begun bs (o + n)
some_begin bs o n b h within =
    let one = count_by_more_yes begins_char bs o 0 (omega arith) (begins_at bs o b (omega arith)) in
    omega (arith, one, begun_grows bs (o + 1) (o + n) (omega arith))

-- what begins in the n bytes behind a place p
pub record BeginBehind (text bs : List ℕ) (o p n count : ℕ) : Type 0 where
  pub some : 0 < count
  pub begun_is : begun bs (o + n) ≡ p + count
  pub begun_there : begun text (offset_of text p + n) ≡ p + count
  pub within : p + count ≤ length (chars text)
  pub few : length (chars text) ≤ length bs

pub begin_behind : (text bs : List ℕ) (o p n count : ℕ) → bs ≡ text → IsUtf8 bs → o ≡ offset_of text p
    → p ≤ length (chars text) → 0 < n → o + n ≤ length bs
    → count ≡ count_by begins_char (take (o + n - o) (drop o bs)) → BeginBehind text bs o p n count
begin_behind text bs o p n count same u at l h inside counted =
    let place = place_in text bs o p same u at l in
    let n_is : o + n - o ≡ n = omega arith in
    let count_is = counted ∙ ap (λ k. count_by begins_char (take k (drop o bs))) n_is in
    let all : begun bs (o + n) ≡ p + count =
    begun_block bs o n ∙ omega (arith, place.begun_before, count_is)
    in record {
      some = omega (arith, all, some_begin bs o n place.boundary h inside, place.begun_before);
      begun_is = all;
      begun_there = sym (ap (λ t. begun t (o + n)) same ∙ ap (λ i. begun text (i + n)) at) ∙ all;
      within = omega (arith, begun_of_all bs (o + n), place.begun_in_all, all);
      few = place.few;
    }
