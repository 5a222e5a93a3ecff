-- A byte below 128 is a character by itself: a step past it goes one byte on, a step back one byte back.
use Rattle.sre_chars.proofs.Terms.{◌≡◌, ℕ, zero, suc, ◌+◌, ◌-◌, ◌/◌, ◌<◌, ◌≤◌, inl, inr, refl, ap, sym, ◌∙◌, arith}
use Rattle.sre_chars.proofs.Terms.{List, [], ◌∷◌, ◌++◌, length, take, drop, get_or, length-append, take-suc, drop-cons}
use Rattle.sre_chars.proofs.Terms.{append-nil, get_or-take, length-drop, length-take-le, cases_lt, lt-ltb, le-ltb}
use Rattle.sre_chars.proofs.Terms.{encode_ascii, encodes-append, chars, IsUtf8, encodes, next, offset_of}
use Rattle.sre_chars.proofs.Terms.{get_or-append_seam, append_assoc}
use lib.Utf8.{encode}
use Rattle.sre_chars.proofs.TextPlaces.{offset_boundary, past_char, some_after, some_before, take_offset}

-- a byte begins where a character does, and one ends where a character does
pub byte_after : (bs : List ℕ) (p : ℕ) → IsUtf8 bs → p < length (chars bs) → offset_of bs p < length bs
byte_after bs p u h = omega (arith, some_after bs p u h, length-drop (offset_of bs p) bs)

pub byte_before : (bs : List ℕ) (p : ℕ) → IsUtf8 bs → 0 < p → p ≤ length (chars bs)
    → (0 < offset_of bs p) × (offset_of bs p ≤ length bs)
byte_before bs p u h l =
    let within = (offset_boundary bs p u).0 in
    (omega (arith, some_before bs p u h l, length-take-le (offset_of bs p) bs within), within)

-- the character that such a byte is
pub ascii_after : (bs : List ℕ) (p b : ℕ) → IsUtf8 bs → p < length (chars bs) → b ≡ get_or bs (offset_of bs p) 0
    → b < 128 → (b ≡ get_or (chars bs) p 0) × (offset_of bs p + 1 ≡ offset_of bs (p + 1))
ascii_after bs p b u h e l =
    let o = offset_of bs p in
    let within = byte_after bs p u h in
    let rest = drop (suc o) bs in
    let first : drop o bs ≡ encode b ++ rest =
    drop-cons bs o 0 within ∙ ap (λ x. x ∷ rest) (sym e) ∙ ap (λ x. x ++ rest) (sym (encode_ascii b l))
    in
    let past = past_char bs p b rest u h first in
    (past.0, omega (arith, within, length-drop (suc o) bs, past.1))

-- a character past ASCII ends in a later byte
ends_later : (c : ℕ) → 128 ≤ c → (front : List ℕ) × (encode c ≡ front ++ next c ∷ [])
unfolding encode
ends_later c h = elim (cases_lt c 2048) [
  | inl l ↦ ((192 + c / 64) ∷ [], rw (le-ltb c 128 h, lt-ltb c 2048 l) refl)
  | inr h2 ↦ elim (cases_lt c 65536) [
    | inl l ↦ ((224 + c / 4096) ∷ next (c / 64) ∷ [], rw (le-ltb c 128 h, le-ltb c 2048 h2, lt-ltb c 65536 l) refl)
    | inr h3 ↦ (
      (240 + c / 262144) ∷ next (c / 4096) ∷ next (c / 64) ∷ [],
      rw (le-ltb c 128 h, le-ltb c 2048 h2, le-ltb c 65536 h3) refl,
    )
  ]
]

-- the bytes of the first characters end in those of the last of them
ends_at : (bs : List ℕ) (q : ℕ) (front : List ℕ) (b : ℕ) → IsUtf8 bs → q < length (chars bs)
    → encode (get_or (chars bs) q 0) ≡ front ++ b ∷ []
    → (get_or bs (offset_of bs (suc q) - 1) 0 ≡ b) × (offset_of bs (suc q) - 1 ≡ offset_of bs q + length front)
ends_at bs q front b u h e =
    let before = encodes (take q (chars bs)) in
    let last = get_or (chars bs) q 0 in
    let end = offset_of bs (suc q) in
    let rest = before ++ front in
    let all : take end bs ≡ rest ++ b ∷ [] =
    take_offset bs (suc q) u
    ∙ ap encodes (take-suc (chars bs) q 0 h)
    ∙ encodes-append (take q (chars bs)) (last ∷ [])
    ∙ ap (λ t. before ++ t) (append-nil (encode last) ∙ e)
    ∙ sym (append_assoc before front (b ∷ []))
    in
    let long : end ≡ length rest + 1 =
    ap length (sym (take_offset bs (suc q) u) ∙ all) ∙ length-append rest (b ∷ [])
    in
    let place : end - 1 ≡ length rest = omega (arith, long) in (
      sym (get_or-take end bs (end - 1) 0 (omega (arith, long)))
          ∙ ap (λ t. get_or t (end - 1) 0) all
          ∙ ap (λ i. get_or (rest ++ b ∷ []) i 0) place
          ∙ get_or-append_seam rest b [] 0,
      omega (arith, place, length-append before front),
    )

pub ascii_before : (bs : List ℕ) (p b : ℕ) → IsUtf8 bs → 0 < p → p ≤ length (chars bs)
    → b ≡ get_or bs (offset_of bs p - 1) 0 → b < 128
    → (b ≡ get_or (chars bs) (p - 1) 0) × (offset_of bs p - 1 ≡ offset_of bs (p - 1))
ascii_before bs zero b u h l e m = absurd (omega arith)
ascii_before bs (suc q) b u h l e m =
    let c = get_or (chars bs) q 0 in
    let back : suc q - 1 ≡ q = omega arith in
    elim (cases_lt c 128) [
      | inl ascii ↦
          let ends = ends_at bs q [] c u (omega arith) (encode_ascii c ascii) in
          rw back (e ∙ ends.0, omega (arith, ends.1))
      | inr later ↦
          let bytes = ends_later c later in
          let ends = ends_at bs q bytes.0 (next c) u (omega arith) bytes.1 in
          absurd (omega (arith, e, ends.0))
    ]

-- a character that ends in another byte is past ASCII
pub later_before : (bs : List ℕ) (p b : ℕ) → IsUtf8 bs → 0 < p → p ≤ length (chars bs)
    → b ≡ get_or bs (offset_of bs p - 1) 0 → 128 ≤ b → 128 ≤ get_or (chars bs) (p - 1) 0
later_before bs zero b u h l e m = absurd (omega arith)
later_before bs (suc q) b u h l e m =
    let c = get_or (chars bs) q 0 in
    let back : suc q - 1 ≡ q = omega arith in
    elim (cases_lt c 128) [
      | inl ascii ↦
          let ends = ends_at bs q [] c u (omega arith) (encode_ascii c ascii) in
          absurd (omega (arith, e, ends.0))
      | inr later ↦ rw back later
    ]
